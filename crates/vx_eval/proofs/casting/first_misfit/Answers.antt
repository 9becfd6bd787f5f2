use Rattle.std.proofs.Common.{arith, sym, below_more, ◌∙◌, ap}
use Rattle.vx_value.specs.Fits.{fits}
use Rattle.vx_value.specs.Views.{type_of}
use Rattle.vx_eval.specs.Columns.{rows_view}
use Rattle.vx_eval.proofs.FirstRows.{first_misfit_at, no_misfit_at}
use Rattle.vx_eval.proofs.casting.first_misfit.Goals as goal

pub returns-then-not-fits : goal.returns-then-not-fits
returns-then-not-fits c = first_misfit_at (type_of c.args.target.now) c.args.count c.loop-i.i (rows_view c.args.input.now) _ (omega arith) c.loop-i.invariant c.row.ensures (sym c.if-not-fits.ensures)

pub loop-i-preserved : goal.loop-i-preserved
loop-i-preserved c = below_more _ _ c.loop-i.invariant (sym (c.if-not-fits.ensures ∙ ap (λ v. fits v (type_of c.args.target.now)) c.row.ensures))

pub returns : goal.returns
returns c = no_misfit_at (type_of c.args.target.now) c.args.count (rows_view c.args.input.now) (λ k h. c.loop-i.invariant k (omega arith))
