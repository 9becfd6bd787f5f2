use Rattle.std.proofs.Common.{ap, sym, ◌∙◌, arith}
use Rattle.vx_value.specs.Fits.{fits}
use Rattle.vx_value.specs.Views.{type_of}
use Rattle.vx_array.specs.Rows.{lanes_rows}
use Rattle.vx_array.proofs.Fitting.{misfit_more}
use Rattle.vx_array.proofs.array.first_misfit.Goals as goal

pub loop-i-preserved : goal.loop-i-preserved
loop-i-preserved c =
    misfit_more (type_of c.args.dtype.now) (lanes_rows c.args.lanes.now) c.loop-i.i (omega (arith, c.len-i-end.ensures)) c.loop-i.invariant (ap (λ d. fits d (type_of c.args.dtype.now)) (sym c.in_ok-value.ensures) ∙ sym c.if-not-fits.ensures)
