-- A bound tree over other children, as it is seen.
use Rattle.std.proofs.Common.{◌≡◌, List, map, Option, None, Some, IfOk, IfSome, IsTrue, Result, Ok, Err, ap}
use Rattle.vx_dtype.specs.declared.error.VortexError.{VortexError}
use Rattle.vx_value.specs.Returns.{Returns, ReturnsOrOom}
use Rattle.vx_tree.specs.declared.bound.BoundExpression.{BoundExpression}
use Rattle.vx_tree.specs.Nodes.{is_root, bound_children_of, bound_over, number_refusal}
use Rattle.vx_tree.specs.Trees.{BoundTree, EachWellTyped, WellTyped, unbound}
use Rattle.vx_tree.specs.Views.{bound_of, bounds_from}
use Rattle.vx_walk.specs.Handed.{seen_node}
use Rattle.vx_walk.specs.Heights.{RebuildsBound}

seen_refusal : (o : Option VortexError) (r : Result BoundExpression VortexError) → IfSome o (λ e. r ≡ Err e) → IfSome o (λ e. seen_node bound_of r ≡ Err e)
seen_refusal None r h = tt
seen_refusal (Some e) r h = ap (seen_node bound_of) h

pub seen : (b : BoundTree) (bs : List BoundTree) (r : Result BoundExpression VortexError) → ReturnsOrOom bound_of r (bound_over b (bounds_from bs))
    → (EachWellTyped (bounds_from bs) → IfOk r (λ n. WellTyped (bound_of n)))
    → (WellTyped b → bounds_from bs ≡ bound_children_of b → ReturnsOrOom bound_of r (Ok b))
    → IfSome (number_refusal b (bounds_from bs)) (λ e. r ≡ Err e)
    → (IsTrue (is_root (unbound b)) → Returns bound_of r (bound_over b (bounds_from bs)))
    → RebuildsBound b bs (seen_node bound_of r)
seen b bs (Ok n) node typed same number root =
    record { node = node; well_typed = typed; same = same; number = seen_refusal (number_refusal b (bounds_from bs)) (Ok n) number; scope = root }
seen b bs (Err e) node typed same number root =
    record { node = node; well_typed = typed; same = same; number = seen_refusal (number_refusal b (bounds_from bs)) (Err e) number; scope = root }
