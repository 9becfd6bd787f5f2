-- How deep trees are, level by level.
use Rattle.std.proofs.Common.{◌≡◌, ℕ, ◌+◌, ◌<◌, get_or, drop, map, arith, List, [], ◌∷◌, ◌++◌, length, refl, sym, ap, ◌∙◌}
use Rattle.std.specs.Prelude.{max}
use Rattle.std.proofs.lemmas.List.{at_drop_more}
use Rattle.vx_tree.specs.Depths.{depth_of, depths_of}
use Rattle.vx_tree.specs.Levels.{greatest}
use Rattle.vx_tree.specs.Nodes.{children_of}
use Rattle.vx_tree.specs.Trees.{Tree, root, call}
use Rattle.vx_tree.specs.Views.{trees_from}

-- ---- the greatest of numbers

module _ {X : Type 0} (f : X → ℕ) where
  greatest-append : (xs : List X) (x : X) → greatest f (xs ++ x ∷ []) ≡ max (greatest f xs) (f x)
  greatest-append [] x = omega arith
  greatest-append (y ∷ xs) x = omega (arith, greatest-append xs x)

  greatest-next : (xs : List X) (i : ℕ) (x : X) → i < length xs → x ≡ get_or xs i x → greatest f (drop i xs) ≡ max (f x) (greatest f (drop (i + 1) xs))
  greatest-next xs i x h is = at_drop_more (greatest f) xs i x h ∙ ap (λ y. max (f y) (greatest f (drop (i + 1) xs))) (sym is)

  -- where each is one more, so is the greatest
  pub greatest-more : (g : X → ℕ) → ((x : X) → f x ≡ g x + 1) → (xs : List X) → 0 < length xs → greatest f xs ≡ greatest g xs + 1
  greatest-more g more [] some = absurd (omega arith)
  greatest-more g more (x ∷ []) some = omega (arith, more x)
  greatest-more g more (x ∷ y ∷ xs) some = omega (arith, more x, greatest-more g more (y ∷ xs) (omega arith))

-- a node is one deeper than its children
pub depth_of-children : (e : Tree) → depth_of e ≡ depths_of (children_of e) + 1
depth_of-children root = refl
depth_of-children (call f es) = refl

-- ---- a level's children

module _ {X T : Type 0} (depth below : X → ℕ) (deep : T → ℕ) (level : List X) (i : ℕ) where
  -- the children of one more node are to be visited
  pub level-next : (x : X) (ts : List T) (done all : ℕ) → i < length level → x ≡ get_or level i x → below x ≡ greatest deep ts
      → max done (greatest below (drop i level)) ≡ all → max (max done (greatest deep ts)) (greatest below (drop (i + 1) level)) ≡ all
  level-next x ts done all h is children rest =
      let next : greatest below (drop i level) ≡ max (below x) (greatest below (drop (i + 1) level)) = greatest-next below level i x h is in
      omega (arith, next, children, rest)

  -- one more of them is
  pub child-next : (found : List X) (x : X) (ts : List T) (j : ℕ) (t : T) (left all : ℕ) → j < length ts → t ≡ get_or ts j t → depth x ≡ deep t
      → max (max (greatest depth found) (greatest deep (drop j ts))) left ≡ all → max (max (greatest depth (found ++ x ∷ [])) (greatest deep (drop (j + 1) ts))) left ≡ all
  child-next found x ts j t left all h is same rest =
      let next : greatest deep (drop j ts) ≡ max (deep t) (greatest deep (drop (j + 1) ts)) = greatest-next deep ts j t h is in
      let one : greatest depth (found ++ x ∷ []) ≡ max (greatest depth found) (depth x) = greatest-append depth found x in
      omega (arith, next, one, same, rest)

-- ---- the children of a tree of either kind

depths_of-trees : {A : Type 0} (tree : A → Tree) (ts : List A) → depths_of (trees_from (map tree ts)) ≡ greatest (λ t. depth_of (tree t)) ts
depths_of-trees tree [] = refl
depths_of-trees tree (t ∷ ts) = ap (max (depth_of (tree t))) (depths_of-trees tree ts)

pub children-depth : {A : Type 0} (tree : A → Tree) (e : Tree) (ts : List A) → trees_from (map tree ts) ≡ children_of e → depths_of (children_of e) ≡ greatest (λ t. depth_of (tree t)) ts
children-depth tree e ts is = ap depths_of (sym is) ∙ depths_of-trees tree ts
