-- The nodes of a tree that are equally far from the first one, as they are lent.
use Rattle.std.specs.Prelude.{ℕ, List, [], ◌∷◌, max}
use Rattle.std.specs.Borrow.{Bor}
use Rattle.vx_tree.specs.Depths.{depth_of, depths_of}
use Rattle.vx_tree.specs.Nodes.{children_of}
use Rattle.vx_tree.specs.Trees.{Tree}

-- the greatest of the numbers, 0 of none
abbrev pub greatest : {X : Type 0} → (X → ℕ) → List X → ℕ
greatest f [] = 0
greatest f (x ∷ xs) = max (f x) (greatest f xs)

-- the depth of a tree of either kind that is lent, and the greatest of its children's
abbrev pub lent_depth : {A : Type 0} → (A → Tree) → Bor A → ℕ
lent_depth tree e = depth_of (tree e.now)

abbrev pub lent_depth_below : {A : Type 0} → (A → Tree) → Bor A → ℕ
lent_depth_below tree e = depths_of (children_of (tree e.now))
