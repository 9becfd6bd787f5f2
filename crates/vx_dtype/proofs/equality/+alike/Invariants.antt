use Rattle.std.proofs.Common.{◌≡◌, drop, true, false}
use Rattle.vx_dtype.specs.Equality.{equal_fields}
use Rattle.vx_dtype.specs.Joins.{same_base_fields}
use Rattle.vx_dtype.specs.Views.{fields_view}
use Rattle.vx_dtype.proofs.equality.+alike.Given as goal

abbrev pub invariant-alike_all-loop-i : goal.invariant-alike_all-loop-i
invariant-alike_all-loop-i l = record {
  same : l.exactly ≡ true → equal_fields (fields_view l.names l.types) (fields_view l.others l.kinds)
      ≡ equal_fields (fields_view (drop l.i l.names) (drop l.i l.types)) (fields_view (drop l.i l.others) (drop l.i l.kinds));
  base : l.exactly ≡ false → same_base_fields (fields_view l.names l.types) (fields_view l.others l.kinds)
      ≡ same_base_fields (fields_view (drop l.i l.names) (drop l.i l.types)) (fields_view (drop l.i l.others) (drop l.i l.kinds));
}
