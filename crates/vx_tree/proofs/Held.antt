-- What nodes of the program stand for: a function over the children that they hold.
use Rattle.std.proofs.Common.{◌≡◌, rules, Vec}
use Rattle.std.specs.declared.alloc.Global.{Global}
use Rattle.std.specs.declared.sync.Arc.{Arc}
use Rattle.vx_dtype.specs.declared.dtype.DType.{DType}
use Rattle.vx_value.specs.Views.{type_of}
use Rattle.vx_fn.specs.Views.{function_of}
use Rattle.vx_fn.specs.declared.function.ScalarFnRef.{ScalarFnRef}
use Rattle.vx_tree.specs.Trees.{call, scope, node}
use Rattle.vx_tree.specs.Views.{tree_of, trees_of, bound_of, bounds_of}
use Rattle.vx_tree.specs.declared.bound.BoundExpression as Bound
use Rattle.vx_tree.specs.declared.bound.BoundExpression.{BoundExpression}
use Rattle.vx_tree.specs.declared.expression.Expression as Unbound
use Rattle.vx_tree.specs.declared.expression.Expression.{Expression}

pub bound_of-Root : (t : DType) → bound_of (Bound.Root t) ≡ scope (type_of t)
bound_of-Root t = search (rules, Bound.the_lemmas)

pub bound_of-Scalar : (t : DType) (f : ScalarFnRef) (all : Arc (Vec BoundExpression Global) Global) → bound_of (Bound.Scalar t f all) ≡ node (type_of t) (function_of f) (bounds_of all.value.items)
bound_of-Scalar t f all = search (rules, Bound.the_lemmas)

pub tree_of-Scalar : (f : ScalarFnRef) (all : Arc (Vec Expression Global) Global) → tree_of (Unbound.Scalar f all) ≡ call (function_of f) (trees_of all.value.items)
tree_of-Scalar f all = search (rules, Unbound.the_lemmas)
