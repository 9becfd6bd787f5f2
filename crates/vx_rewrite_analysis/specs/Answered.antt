-- What a closure answered at the nodes that are reached, by the nodes' trees.
use Rattle.std.specs.Prelude.{◌≡◌, ◌<◌, ℕ, List, [], ◌∷◌, Option, None, Some, Vec, cond, length}
use Rattle.std.specs.declared.hash.BuildHasherDefault.{BuildHasherDefault}
use Rattle.std.specs.declared.hash.FoldHasher.{FoldHasher}
use Rattle.std.specs.HashMap.{HashMap}
use Rattle.std.specs.HashSet.{hasher_of}
use Rattle.indexmap.specs.Layout.{hash_map}
use Rattle.vx_tree.specs.Equality.{equal_bound}
use Rattle.vx_tree.specs.Exact.{key_for}
use Rattle.vx_tree.specs.Trees.{BoundTree, BoundTrees}
use Rattle.vx_tree.specs.declared.exact.ExactBoundExpr.{ExactBoundExpr}
use Rattle.vx_rewrite_analysis.specs.Numbers.{node_tree, tree_at, trees_at, IsNumbered}
use Rattle.vx_rewrite_analysis.specs.declared.answered.AnsweredNodes.{AnsweredNodes}
use Rattle.vx_rewrite_analysis.specs.declared.numbers.NumberedNode.{NumberedNode}

-- the answers at the number of the tree, if it has one and that is reached
abbrev pub own_given : {A Z : Type 0} → BoundTree → List NumberedNode → List (Option (Vec A Z)) → Option (List A)
own_given b [] xs = None
own_given b (n ∷ ns) [] = None
own_given b (n ∷ ns) (None ∷ xs) = own_given b ns xs
own_given b (n ∷ ns) (Some own ∷ xs) = cond (equal_bound b (node_tree n)) (Some own.items) (own_given b ns xs)

-- an entry for each number that is reached, with what `value` gives of its tree
abbrev pub own_entries : {A X Z : Type 0} → (BoundTree → X) → List NumberedNode → List (Option (Vec A Z)) → List (ExactBoundExpr × X)
own_entries value [] xs = []
own_entries value (n ∷ ns) [] = []
own_entries value (n ∷ ns) (None ∷ xs) = own_entries value ns xs
own_entries value (n ∷ ns) (Some own ∷ xs) = (key_for n.tree.now, value (node_tree n)) ∷ own_entries value ns xs

module _ {A : Type 0} where
  -- how many numbers there are
  abbrev pub count_of : AnsweredNodes A → ℕ
  count_of a = length a.nodes.keys

  -- the nodes are numbered, and each has a place for its answers
  abbrev pub AreAnswered : AnsweredNodes A → Type 0
  AreAnswered a = IsNumbered a.nodes.keys × (length a.answers.items ≡ length a.nodes.keys) × (a.root < length a.nodes.keys)

  -- the number of the whole tree
  abbrev pub root_of : AnsweredNodes A → ℕ
  root_of a = a.root

  -- the tree of a number; of one that is no number any tree
  abbrev pub tree_of : AnsweredNodes A → ℕ → BoundTree
  tree_of a i = tree_at a.nodes.keys i

  -- the trees of the numbers
  abbrev pub trees_of : AnsweredNodes A → List ℕ → BoundTrees
  trees_of a is = trees_at a.nodes.keys is

  -- the answers at a node, if it is reached
  abbrev pub given_by : AnsweredNodes A → BoundTree → Option (List A)
  given_by a b = own_given b a.nodes.keys a.answers.items

  -- a hash builder, as each map keeps one
  abbrev pub hasher_in : AnsweredNodes A → BuildHasherDefault FoldHasher
  hasher_in a = hasher_of a.nodes

  -- the map that has an entry for each node that is reached, with what `value` gives of it
  abbrev pub map_of_given : {X : Type 0} → (BoundTree → X) → AnsweredNodes A → HashMap ExactBoundExpr X (BuildHasherDefault FoldHasher)
  map_of_given value a = hash_map (own_entries value a.nodes.keys a.answers.items) (hasher_in a) 0
