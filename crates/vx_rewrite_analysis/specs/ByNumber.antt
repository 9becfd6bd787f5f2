-- What numbered nodes have, by number. No public contract names this file.
use Rattle.std.specs.Prelude.{◌≡◌, ℕ, Bool, false, ◌||◌, ◌&&◌, List, [], ◌∷◌, Option, None, Some, is_some, get_or, if◌then◌else◌}
use Rattle.std.specs.HashSet.{HashSet, contains}
use Rattle.vx_tree.specs.Equality.{equal_bound}
use Rattle.vx_tree.specs.Trees.{BoundTree}
use Rattle.vx_rewrite_analysis.specs.Annotations.{is_some_item}
use Rattle.vx_rewrite_analysis.specs.Numbers.{node_tree, tree_at}
use Rattle.vx_rewrite_analysis.specs.Reached.{is_reached}
use Rattle.vx_rewrite_analysis.specs.declared.numbers.NumberedNode.{NumberedNode}

-- whether a number of the tree has something
abbrev pub has_some : {X : Type 0} → BoundTree → List NumberedNode → List (Option X) → Bool
has_some b [] xs = false
has_some b (n ∷ ns) [] = false
has_some b (n ∷ ns) (x ∷ xs) = (equal_bound b (node_tree n) && is_some x) || has_some b ns xs

-- what each number has is of its tree, as P says
abbrev pub HasEach : {X : Type 0} → (BoundTree → X → Type 0) → List NumberedNode → List (Option X) → Type 0
HasEach {X} P ns xs = (i : ℕ) (x : X) → get_or xs i None ≡ Some x → P (tree_at ns i) x

-- the nodes that are reached from the tree have something, and no others
abbrev pub HasReached : {X : Type 0} → (BoundTree → Bool) → BoundTree → List NumberedNode → List (Option X) → Type 0
HasReached stops b ns xs = (k : BoundTree) → has_some k ns xs ≡ is_reached stops k b

-- the numbers that are looked at after a node with those answers: those of its children, or none where there are answers
abbrev pub looked_at_next : {A : Type 0} → List A → NumberedNode → List ℕ
looked_at_next answers n = if is_some_item answers then [] else n.children.items

-- whether there is a set that has the annotation
abbrev pub has_annotation : {A S : Type 0} → (A → A → Bool) → A → Option (HashSet A S) → Bool
has_annotation eq a None = false
has_annotation eq a (Some s) = contains eq s a
