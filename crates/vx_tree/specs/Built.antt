-- What a call that makes a node of a function over children gives.
use Rattle.std.specs.Prelude.{◌≡◌, Result, Ok, IfOk}
use Rattle.vx_dtype.specs.declared.error.VortexError.{VortexError}
use Rattle.vx_dtype.specs.Returns.{ReturnsOrOom}
use Rattle.vx_value.specs.Types.{LogicalType}
use Rattle.vx_fn.specs.Functions.{Function}
use Rattle.vx_tree.specs.declared.expression.Expression.{Expression}
use Rattle.vx_tree.specs.declared.bound.BoundExpression.{BoundExpression}
use Rattle.vx_tree.specs.Binding.{node_over}
use Rattle.vx_tree.specs.Trees.{call, Trees, BoundTree, BoundTrees, unbound, unbound_each, WellTyped, EachWellTyped, Over, EachOver}
use Rattle.vx_tree.specs.Views.{tree_of, bound_of}

-- the call gave the function's node over the children, unless memory ran out
abbrev pub GivesNode : Function → Trees → Result Expression VortexError → Type 0
GivesNode f es result = ReturnsOrOom tree_of result (Ok (call f es))

-- a bound node is well typed and over a scope where its children are, and its source is the node over theirs
pub record StandsOn (f : Function) (bs : BoundTrees) (b : BoundTree) : Type 0 where
  pub well_typed : EachWellTyped bs → WellTyped b
  pub over : (s : LogicalType) → EachOver bs s → Over b s
  pub source : unbound b ≡ call f (unbound_each bs)

-- the call gave the function's node over the bound children where typing gives it a type, else its refusal, unless memory ran out
pub record GivesBoundNode (f : Function) (bs : BoundTrees) (result : Result BoundExpression VortexError) : Type 0 where
  pub node : ReturnsOrOom bound_of result (node_over f bs)
  pub stands : IfOk result (λ b. StandsOn f bs (bound_of b))
