use Rattle.std.proofs.Common.{◌≡◌, ◌<◌, suc, ℕ, get_or, false}
use Rattle.vx_value.specs.Types.{null}
use Rattle.vx_fn.specs.Faults.{differs}
use Rattle.vx_eval.specs.Columns.{rows_view}
use Rattle.vx_eval.proofs.nulls.some_differ.Given as goal

abbrev pub invariant-loop-i : goal.invariant-loop-i
invariant-loop-i l = (k : ℕ) → suc k < l.i → differs (get_or (rows_view l.fill) 0 null) (get_or (rows_view l.fill) (suc k) null) ≡ false
