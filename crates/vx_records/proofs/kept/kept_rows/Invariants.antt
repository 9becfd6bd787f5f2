-- The rows so far beside which stands true are kept.
use Rattle.std.proofs.Common.{◌≡◌, map}
use Rattle.vx_value.specs.Views.{value_of}
use Rattle.vx_records.specs.Chunks.{true_rows, values_in}
use Rattle.vx_records.proofs.kept.kept_rows.Given as goal

abbrev pub invariant-loop-i : goal.invariant-loop-i
invariant-loop-i l = map value_of l.kept.items ≡ true_rows (values_in l.all) (values_in l.truths) l.i
