-- The nodes of a well-typed tree.
use Rattle.std.proofs.Common.{◌≡◌, ◌||◌, List, [], true, sym, subst, inl, inr}
use Rattle.vx_tree.specs.Equality.{equal_bound, equal_bound-Decides}
use Rattle.vx_tree.specs.Trees.{BoundTree, scope, node, BoundTrees, no_bound, bound, WellTyped, EachWellTyped}
use Rattle.vx_rewrite_analysis.specs.Reached.{occurs, occurs_in, IsNodeOf}
use Rattle.vx_rewrite_analysis.specs.Numbers.{has_node}
use Rattle.vx_rewrite_analysis.specs.declared.numbers.NumberedNode.{NumberedNode}
use Rattle.vx_rewrite_analysis.proofs.Numbering.{occurs-numbered}
use Rattle.vx_rewrite_analysis.proofs.Subtrees.{or_either}

mutual
  pub nodes-typed : (n b : BoundTree) → WellTyped b → occurs n b ≡ true → WellTyped n
  nodes-typed n (scope t) typed there = subst WellTyped (sym ((equal_bound-Decides n (scope t)).0 there)) typed
  nodes-typed n (node t f bs) typed there = elim (or_either (equal_bound n (node t f bs)) (occurs_in n bs) there) [
    | inl same ↦ subst WellTyped (sym ((equal_bound-Decides n (node t f bs)).0 same)) typed
    | inr below ↦ nodes-typed-in n bs typed.2 below
  ]

  pub nodes-typed-in : (n : BoundTree) (bs : BoundTrees) → EachWellTyped bs → occurs_in n bs ≡ true → WellTyped n
  nodes-typed-in n no_bound typed there = cc
  nodes-typed-in n (bound b bs) typed there = elim (or_either (occurs n b) (occurs_in n bs) there) [
    | inl first ↦ nodes-typed n b typed.0 first
    | inr rest ↦ nodes-typed-in n bs typed.1 rest
  ]

-- what occurs in a tree is a node of it
pub node-of : (n b : BoundTree) → occurs n b ≡ true → IsNodeOf n b
node-of n b there = (there, λ typed. nodes-typed n b typed there)

-- so does what has a number where at first none had one
pub node-numbered : (b n : BoundTree) (ns old new : List NumberedNode) → ns ≡ new → old ≡ [] → has_node n new ≡ (occurs n b || has_node n old) → has_node n ns ≡ true → IsNodeOf n b
node-numbered b n ns old new same none nodes there = node-of n b (occurs-numbered b n ns old new same none nodes there)
