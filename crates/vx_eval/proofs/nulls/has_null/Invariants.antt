use Rattle.std.proofs.Common.{◌≡◌, ◌<◌, ℕ, get_or, false}
use Rattle.vx_value.specs.Types.{null, is_null_datum}
use Rattle.vx_eval.specs.Columns.{rows_view}
use Rattle.vx_eval.proofs.nulls.has_null.Given as goal

abbrev pub invariant-loop-i : goal.invariant-loop-i
invariant-loop-i l = (k : ℕ) → k < l.i → is_null_datum (get_or (rows_view l.fill) k null) ≡ false
