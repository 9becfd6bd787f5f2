use Rattle.std.proofs.Common.{◌≡◌, None, map}
use Rattle.vx_value.specs.Columns.{first_misfit}
use Rattle.vx_value.specs.Views.{value_of}
use Rattle.vx_forms.proofs.columns.column_of.Given as goal

abbrev pub invariant-loop-value : goal.invariant-loop-value
invariant-loop-value g l = record {
  so_far : map value_of l.rows.items ≡ map g.T.Native.datum l.yielded;
  fit : first_misfit g.T.Native.logical_type (map value_of l.rows.items) ≡ None;
}
