-- Children of a node: that they don't fault where it doesn't, and what holds of each of them.
use Rattle.std.proofs.Common.{◌≡◌, inl, inr, List, sym, subst, ◌⊎◌}
use Rattle.std.specs.Prelude.{None}
use Rattle.vx_tree.proofs.Children.{first_quiet, rest_quiet, children_quiet}
use Rattle.vx_tree.proofs.Trees.{or_none}
use Rattle.vx_value.specs.Types.{LogicalType, Datum}
use Rattle.vx_fn.specs.Functions.{Function}
use Rattle.vx_tree.specs.Faults.{HasNoFault, each_fault}
use Rattle.vx_tree.specs.Trees.{BoundTree, node, BoundTrees, no_bound, bound, WellTyped, EachWellTyped, Over, EachOver}
use Rattle.vx_rewrite_core.specs.Nodes.{one_bound, two_bounds, three_bounds}

-- ---- the children of a node that doesn't fault don't

pub only_quiet : (t : LogicalType) (f : Function) (x : BoundTree) (batch : List Datum) → HasNoFault (node t f (one_bound x)) batch → HasNoFault x batch
only_quiet t f x batch n = first_quiet x no_bound batch (children_quiet t f (one_bound x) batch n)

pub second_quiet : (t : LogicalType) (f : Function) (x y : BoundTree) (ys : BoundTrees) (batch : List Datum) → HasNoFault (node t f (bound x (bound y ys))) batch → HasNoFault y batch
second_quiet t f x y ys batch n = first_quiet y ys batch (rest_quiet x (bound y ys) batch (children_quiet t f (bound x (bound y ys)) batch n))

pub third_quiet : (t : LogicalType) (f : Function) (x y z : BoundTree) (batch : List Datum) → HasNoFault (node t f (three_bounds x y z)) batch → HasNoFault z batch
third_quiet t f x y z batch n = first_quiet z no_bound batch (rest_quiet y (one_bound z) batch (rest_quiet x (two_bounds y z) batch (children_quiet t f (three_bounds x y z) batch n)))

-- ---- children

abbrev pub IsChild : BoundTree → BoundTrees → Type 0
IsChild x no_bound = ⊥
IsChild x (bound y ys) = (x ≡ y) ⊎ IsChild x ys

pub child-well_typed : (x : BoundTree) (xs : BoundTrees) → IsChild x xs → EachWellTyped xs → WellTyped x
child-well_typed x no_bound i w = elim i [ ]
child-well_typed x (bound y ys) (inl e) w = subst WellTyped (sym e) w.0
child-well_typed x (bound y ys) (inr i) w = child-well_typed x ys i w.1

pub child-over : (x : BoundTree) (xs : BoundTrees) (s : LogicalType) → IsChild x xs → EachOver xs s → Over x s
child-over x no_bound s i o = elim i [ ]
child-over x (bound y ys) s (inl e) o = subst (λ z. Over z s) (sym e) o.0
child-over x (bound y ys) s (inr i) o = child-over x ys s i o.1

pub child-quiet : (x : BoundTree) (xs : BoundTrees) (batch : List Datum) → IsChild x xs → each_fault xs batch ≡ None → HasNoFault x batch
child-quiet x no_bound batch i n = elim i [ ]
child-quiet x (bound y ys) batch (inl e) n = let q = or_none _ _ n in subst (λ z. HasNoFault z batch) (sym e) q.0
child-quiet x (bound y ys) batch (inr i) n = let q = or_none _ _ n in child-quiet x ys batch i q.1
