use Rattle.std.proofs.Common.{◌≡◌, ◌<◌, ℕ, get_or, true}
use Rattle.vx_value.specs.Fits.{fits}
use Rattle.vx_value.specs.Types.{null}
use Rattle.vx_value.specs.Views.{type_of}
use Rattle.vx_eval.specs.Columns.{rows_view}
use Rattle.vx_eval.proofs.casting.first_misfit.Given as goal

abbrev pub invariant-loop-i : goal.invariant-loop-i
invariant-loop-i l = (k : ℕ) → k < l.i → fits (get_or (rows_view l.input) k null) (type_of l.target) ≡ true
