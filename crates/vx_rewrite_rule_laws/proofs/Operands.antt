-- A node of two operands is kept by one of them, where that means the same.
use Rattle.std.proofs.Common.{◌≡◌}
use Rattle.vx_dtype.specs.Joins.{Narrower}
use Rattle.vx_fn.specs.Functions.{Operation, binary}
use Rattle.vx_fn.specs.Values.{binary_value}
use Rattle.vx_tree.specs.Meaning.{value}
use Rattle.vx_tree.specs.Trees.{BoundTree, node, no_bound, node_type, WellTyped}
use Rattle.vx_value.specs.Fits.{Fits}
use Rattle.vx_value.specs.Types.{LogicalType, Datum}
use Rattle.vx_rewrite_core.specs.Keeps.{Keeps}
use Rattle.vx_rewrite_core.proofs.Prelude.{value-fits, each_passes, first_quiet, children_quiet, second_quiet, IsChild, child-well_typed, child-over, child-quiet}
use Rattle.vx_rewrite_core.specs.Nodes.{one_bound, two_bounds}

pub keeps_operand : (t : LogicalType) (op : Operation) (x y z : BoundTree) → WellTyped (node t (binary op) (two_bounds x y)) → IsChild z (two_bounds x y) → Narrower (node_type z) t → ((v : Datum) → Fits (value x v) (node_type x) → Fits (value y v) (node_type y) → value z v ≡ binary_value op (value x v) (value y v)) → Keeps (node t (binary op) (two_bounds x y)) z
keeps_operand t op x y z w c p same = record {
  typed_before = w;
  typed_after = child-well_typed z (two_bounds x y) c w.2;
  scopes = λ s o. child-over z (two_bounds x y) s c o;
  type = p;
  no_fault = λ s batch o i n. child-quiet z (two_bounds x y) batch c (children_quiet t (binary op) (two_bounds x y) batch n);
  meaning = λ s batch o i n v j.
      let row = each_passes _ batch v i j in
      let left = value-fits x s batch v w.2.0 o.0 (first_quiet x (one_bound y) batch (children_quiet t (binary op) (two_bounds x y) batch n)) j row in
      let right = value-fits y s batch v w.2.1.0 o.1.0 (second_quiet t (binary op) x y no_bound batch n) j row in
      same v left right;
}
