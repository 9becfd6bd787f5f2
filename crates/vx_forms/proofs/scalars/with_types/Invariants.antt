use Rattle.std.proofs.Common.{◌≡◌, map}
use Rattle.vx_value.specs.Views.{type_of}
use Rattle.vx_forms.specs.Rows.{AreConstants, constant_types}
use Rattle.vx_forms.proofs.scalars.with_types.Given as goal

abbrev pub invariant-loop-scalar : goal.invariant-loop-scalar
invariant-loop-scalar l = record {
  typed : map type_of l.types.items ≡ constant_types l.yielded;
  kept : l.same.items ≡ l.yielded;
  fit : AreConstants l.yielded;
}
