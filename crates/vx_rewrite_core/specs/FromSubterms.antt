-- Rules whose new children come from below the root: what was normal below it stays so, also beside other such rules.
use Rattle.vx_value.specs.Types.{LogicalType, Datum}
use Rattle.vx_fn.specs.Functions.{Function, literal}
use Rattle.vx_tree.specs.Trees.{BoundTree, node, BoundTrees, no_bound, bound}
use Rattle.vx_tree.specs.Nodes.{bound_children_of}
use Rattle.vx_rewrite_core.specs.Steps.{GivesNothing}

-- the tree is one of these, or stands somewhere below one
pub data Inside : BoundTree → BoundTrees → Type 0 where
  at_first : {x : BoundTree} {xs : BoundTrees} → Inside x (bound x xs)
  in_first : {x : BoundTree} {t : LogicalType} {f : Function} {xs ys : BoundTrees} → Inside x ys → Inside x (bound (node t f ys) xs)
  in_rest : {x y : BoundTree} {xs : BoundTrees} → Inside x xs → Inside x (bound y xs)

-- a literal
pub data IsLiteral : BoundTree → Type 0 where
  is_literal : {t u : LogicalType} {c : Datum} → IsLiteral (node t (literal u c) no_bound)

-- each of the second trees stands among the first or below them, or is a literal
pub data EachFrom (xs : BoundTrees) : BoundTrees → Type 0 where
  from_none : EachFrom xs no_bound
  from_inside : {y : BoundTree} {ys : BoundTrees} → Inside y xs → EachFrom xs ys → EachFrom xs (bound y ys)
  from_literal : {y : BoundTree} {ys : BoundTrees} → IsLiteral y → EachFrom xs ys → EachFrom xs (bound y ys)

-- each child of what is given stood below the root or is a literal, and nothing is given at a literal
pub record FromSubterms (R : BoundTree → BoundTree → Type 0) : Type 0 where
  pub from : (b u : BoundTree) → R b u → EachFrom (bound_children_of b) (bound_children_of u)
  pub at_literals : (b : BoundTree) → IsLiteral b → GivesNothing R b
