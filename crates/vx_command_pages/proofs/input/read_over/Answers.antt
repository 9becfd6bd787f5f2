use Rattle.std.proofs.Common.{sym, subst}
use Rattle.vx_source_over.specs.Reading.{IsWritten}
use Rattle.vx_command_pages.proofs.input.read_over.Goals as goal

-- the text is refused as it is settled over the scope
pub returns-in-Err-clause-error : goal.returns-in-Err-clause-error
returns-in-Err-clause-error c text is = c.unsettled.ensures text _ (c.in-Err.ensures.refuses 200 text (subst (λ w. IsWritten 200 text w) (sym c.into_inner.ensures) is))
