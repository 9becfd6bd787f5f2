use Rattle.std.proofs.Common.{◌∙◌, sym, arith}
use Rattle.std.proofs.lemmas.Int.{ints}
use Rattle.vx_literals.proofs.Parts.{negative_read}
use Rattle.vx_literals.proofs.decimals.read_decimal.Goals as goal

pub returns-then-begin_with : goal.returns-then-begin_with
returns-then-begin_with c =
    negative_read c.args.scale c.in_ok-size_of.field-0 c.args.text.now _ (sym c.begin_with.ensures ∙ c.if-begin_with.true) c.in_ok-size_of.ensures.size (omega (arith, ints, c.in_ok-size_of.ensures.small))
