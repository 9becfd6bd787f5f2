-- The children of a node, seen as bound trees.
use Rattle.std.proofs.Common.{◌≡◌, ℕ, zero, suc, ◌<◌, ◌≤◌, List, [], ◌∷◌, length, get_or, Some, None, refl, sym, ap, ◌∙◌, arith, rules, Vec}
use Rattle.std.specs.declared.alloc.Global.{Global}
use Rattle.std.specs.declared.sync.Arc.{Arc}
use Rattle.vx_dtype.specs.declared.dtype.DType.{DType}
use Rattle.vx_value.specs.Views.{type_of}
use Rattle.vx_fn.specs.declared.function.ScalarFnRef.{ScalarFnRef}
use Rattle.vx_fn.specs.Views.{function_of}
use Rattle.vx_tree.specs.declared.bound.BoundExpression as Bound
use Rattle.vx_tree.specs.declared.bound.BoundExpression.{BoundExpression}
use Rattle.vx_tree.specs.Nodes.{bound_at, size_of, sizes_of}
use Rattle.vx_tree.specs.Trees.{node, unbound, unbound_each}
use Rattle.vx_tree.specs.Views.{bound_of, bounds_of}
use Rattle.vx_tree.proofs.Nodes.{bound_at-bounds_of, unbound_each-bounds_of}
use Rattle.vx_tree.proofs.Seen.{item_smaller}

pub bound_at-there : (bs : List BoundExpression) (i : ℕ) (b : BoundExpression) → i < length bs → b ≡ get_or bs i b → Some (bound_of b) ≡ bound_at (bounds_of bs) i
bound_at-there bs i b h is = ap (λ x. Some (bound_of x)) is ∙ sym (bound_at-bounds_of bs i b h)

pub bound_at-beyond : (bs : List BoundExpression) (i : ℕ) → length bs ≤ i → None ≡ bound_at (bounds_of bs) i
bound_at-beyond [] i h = refl
bound_at-beyond (b ∷ bs) zero h = absurd (omega arith)
bound_at-beyond (b ∷ bs) (suc i) h = bound_at-beyond bs i (omega arith)

-- a child has no more nodes than all have together
pub child_smaller : (bs : List BoundExpression) (i : ℕ) (b : BoundExpression) → i < length bs → b ≡ get_or bs i b → size_of (unbound (bound_of b)) ≤ sizes_of (unbound_each (bounds_of bs))
child_smaller bs i b h is =
    let below = item_smaller (λ x. unbound (bound_of x)) bs i b h is in
    let same = ap sizes_of (unbound_each-bounds_of bs) in omega arith

bound_of-Scalar : (t : DType) (f : ScalarFnRef) (all : Arc (Vec BoundExpression Global) Global) → bound_of (Bound.Scalar t f all) ≡ node (type_of t) (function_of f) (bounds_of all.value.items)
bound_of-Scalar t f all = search (rules, Bound.the_lemmas)

-- a node over the children that it holds
pub bound_node : (b : BoundExpression) (t : DType) (f : ScalarFnRef) (all : Arc (Vec BoundExpression Global) Global) (children : List BoundExpression) → b ≡ Bound.Scalar t f all → children ≡ all.value.items
    → bound_of b ≡ node (type_of t) (function_of f) (bounds_of children)
bound_node b t f all children is those = rw (is, bound_of-Scalar t f all, ← those) refl
