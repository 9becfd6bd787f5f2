use Rattle.std.proofs.Common.{◌∙◌, arith, sym}
use Rattle.vx_data.proofs.QuotesRead.{found_all, found_at}
use Rattle.vx_data.proofs.csv_files.quotes.has_quote.Goals as goal

pub loop-i-preserved : goal.loop-i-preserved
loop-i-preserved c = sym (found_at c.args.text.now c.loop-i.i c.loop-i.found c.loop-i-test.true) ∙ c.loop-i.invariant

pub returns : goal.returns
returns c = sym (found_all c.args.text.now c.loop-i.i c.loop-i.found (omega (arith, c.loop-i-test.false))) ∙ c.loop-i.invariant
