-- The children of a bound tree: that they are typed, smaller and don't fault, and what is left of them from a place on.
use Rattle.std.proofs.Common.{◌≡◌, ℕ, ◌+◌, ◌<◌, ◌≤◌, List, length, get_or, drop, drop_of_length-le, ap, subst, arith}
use Rattle.std.specs.Prelude.{None}
use Rattle.vx_dtype.proofs.Lists.{drop_next}
use Rattle.vx_value.specs.Types.{LogicalType, Datum}
use Rattle.vx_fn.specs.Functions.{Function}
use Rattle.vx_tree.specs.Faults.{HasNoFault, each_fault}
use Rattle.vx_tree.specs.Nodes.{bound_children_of, size_of, sizes_of}
use Rattle.vx_tree.specs.Trees.{BoundTree, scope, node, BoundTrees, no_bound, bound, unbound, unbound_each, WellTyped, EachWellTyped, Over, EachOver}
use Rattle.vx_tree.specs.Views.{bound_of, bounds_of}
use Rattle.vx_tree.specs.declared.bound.BoundExpression.{BoundExpression}
use Rattle.vx_tree.proofs.Trees.{or_none}

-- ---- of a node

pub children_typed : (b : BoundTree) → WellTyped b → EachWellTyped (bound_children_of b)
children_typed (scope t) w = tt
children_typed (node t f bs) w = w.2

pub children_smaller : (b : BoundTree) → sizes_of (unbound_each (bound_children_of b)) < size_of (unbound b)
children_smaller (scope t) = omega arith
children_smaller (node t f bs) = omega arith

-- ---- where a node doesn't fault

pub first_quiet : (x : BoundTree) (xs : BoundTrees) (batch : List Datum) → each_fault (bound x xs) batch ≡ None → HasNoFault x batch
first_quiet x xs batch n = (or_none _ _ n).0

pub rest_quiet : (x : BoundTree) (xs : BoundTrees) (batch : List Datum) → each_fault (bound x xs) batch ≡ None → each_fault xs batch ≡ None
rest_quiet x xs batch n = (or_none _ _ n).1

pub children_quiet : (t : LogicalType) (f : Function) (xs : BoundTrees) (batch : List Datum) → HasNoFault (node t f xs) batch → each_fault xs batch ≡ None
children_quiet t f xs batch n = (or_none _ _ n).0

-- ---- from a place on

pub bounds_next : (bs : List BoundExpression) (i : ℕ) (b : BoundExpression) → i < length bs → b ≡ get_or bs i b → bounds_of (drop i bs) ≡ bound (bound_of b) (bounds_of (drop (i + 1) bs))
bounds_next bs i b h is = ap bounds_of (drop_next bs i b h is)

pub bounds_end : (bs : List BoundExpression) (i : ℕ) → length bs ≤ i → bounds_of (drop i bs) ≡ no_bound
bounds_end bs i h = ap bounds_of (drop_of_length-le bs h)

pub typed_next : (bs : List BoundExpression) (i : ℕ) (b : BoundExpression) → i < length bs → b ≡ get_or bs i b
    → EachWellTyped (bounds_of (drop i bs)) → WellTyped (bound_of b) × EachWellTyped (bounds_of (drop (i + 1) bs))
typed_next bs i b h is w = subst EachWellTyped (bounds_next bs i b h is) w

pub over_next : (s : LogicalType) (bs : List BoundExpression) (i : ℕ) (b : BoundExpression) → i < length bs → b ≡ get_or bs i b
    → EachOver (bounds_of (drop i bs)) s → Over (bound_of b) s × EachOver (bounds_of (drop (i + 1) bs)) s
over_next s bs i b h is o = subst (λ cs. EachOver cs s) (bounds_next bs i b h is) o
