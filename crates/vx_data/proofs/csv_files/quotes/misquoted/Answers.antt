use Rattle.std.proofs.Common.{◌+◌, ◌∙◌, ap, arith, sym}
use Rattle.std.specs.Prelude.{drop}
use Rattle.vx_data.specs.Quotes.{misquoted_from}
use Rattle.vx_data.proofs.QuotesRead.{after_at, behind_at, end_at, unquoted}
use Rattle.vx_data.proofs.csv_files.quotes.misquoted.Goals as goal

pub returns-then-not-has_quote : goal.returns-then-not-has_quote
returns-then-not-has_quote c = sym (unquoted c.args.delimiter c.args.text.now (sym c.has_quote.ensures ∙ c.if-not-has_quote.true))

pub returns-then-is_behind : goal.returns-then-is_behind
returns-then-is_behind c = sym (behind_at c.args.delimiter c.loop-i.i c.loop-i.place c.args.text.now c.loop-i-test.true (sym c.is_behind.ensures ∙ c.if-is_behind.true)) ∙ c.loop-i.invariant

pub loop-i-preserved : goal.loop-i-preserved
loop-i-preserved c =
    ap (λ p. misquoted_from c.args.delimiter p (c.loop-i.i + 1) (drop (c.loop-i.i + 1) c.args.text.now)) c.after-place.ensures
    ∙ sym (after_at c.args.delimiter c.loop-i.i c.loop-i.place c.args.text.now c.loop-i-test.true (sym c.is_behind.ensures ∙ c.if-is_behind.false))
    ∙ c.loop-i.invariant

pub returns : goal.returns
returns c = c.left_open.ensures ∙ sym (end_at c.args.delimiter c.loop-i.i c.loop-i.place c.args.text.now (omega (arith, c.loop-i-test.false))) ∙ c.loop-i.invariant
