-- What a node is, given that its call answered it.
use Rattle.std.proofs.Common.{◌≡◌, List, length, Result, Ok, Err, refl, subst, IfOk}
use Rattle.vx_dtype.specs.declared.error.VortexError.{VortexError}
use Rattle.vx_dtype.specs.Returns.{ReturnsOrOom}
use Rattle.vx_value.specs.Types.{LogicalType}
use Rattle.vx_fn.specs.Functions.{Function, Typing, fn_type, arity_of}
use Rattle.vx_tree.specs.declared.expression.Expression.{Expression}
use Rattle.vx_tree.specs.declared.bound.BoundExpression.{BoundExpression}
use Rattle.vx_tree.specs.Binding.{node_over}
use Rattle.vx_tree.specs.Nodes.{call_over}
use Rattle.vx_tree.specs.Trees.{call, BoundTree, node, BoundTrees, unbound, unbound_each, node_types, on_ok, WellTyped, EachWellTyped, Over, EachOver}
use Rattle.vx_tree.specs.Views.{tree_of, trees_of, bound_of}
use Rattle.vx_tree.proofs.Nodes.{call_over-fits}
use Rattle.vx_tree.specs.Built.{GivesNode, GivesBoundNode}

pub gives_node : (f : Function) (es : List Expression) (r : Result Expression VortexError) → length es ≡ arity_of f
    → ReturnsOrOom tree_of r (call_over f (trees_of es)) → GivesNode f (trees_of es) r
gives_node f es r fits h = subst (ReturnsOrOom tree_of r) (call_over-fits f es fits) h

abbrev pub Kept : Function → BoundTrees → BoundTree → Type 0
Kept f bs b = ((s : LogicalType) → EachOver bs s → Over b s) × (unbound b ≡ call f (unbound_each bs))

pub kept : (f : Function) (bs : BoundTrees) (t : Typing) → IfOk (on_ok (λ u. Ok (node u f bs)) t) (Kept f bs)
kept f bs (Ok u) = (λ s h. h, refl)
kept f bs (Err e) = tt

pub gives_bound_node : (f : Function) (bs : BoundTrees) (r : Result BoundExpression VortexError) → ReturnsOrOom bound_of r (node_over f bs)
    → (EachWellTyped bs → IfOk r (λ b. WellTyped (bound_of b))) → GivesBoundNode f bs r
gives_bound_node f bs (Ok x) h typed =
    let k = subst (λ said. IfOk said (Kept f bs)) h (kept f bs (fn_type f (node_types bs))) in
    record { node = h; stands = record { well_typed = typed; over = k.0; source = k.1 } }
gives_bound_node f bs (Err e) h typed = record { node = h; stands = tt }
