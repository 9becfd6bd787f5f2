use Rattle.std.proofs.Common.{◌≡◌, ℕ, ◌<◌, get_or, false}
use Rattle.vx_value.specs.Types.{is_null_datum, null}
use Rattle.vx_array_build.specs.Filled.{rows_lent}
use Rattle.vx_array_build.proofs.filled.none_is_null.Given as goal

abbrev pub invariant-loop-i : goal.invariant-loop-i
invariant-loop-i l = (k : ℕ) → k < l.i → is_null_datum (get_or (rows_lent l.rows) k null) ≡ false
