use Rattle.std.proofs.Common.{◌≡◌, ◌-◌, length, take, drop, length-drop, sym, ap, ◌∙◌, arith}
use Rattle.std.proofs.lemmas.Bool.{cond-false, cond-true}
use Rattle.std.proofs.lemmas.List.{take_all}
use Rattle.vx_floats.specs.Texts.{bits_read, float_read, value_read}
use Rattle.vx_floats.proofs.reading.read_float.Goals as goal

pub returns-then-starts_with : goal.returns-then-starts_with
unfolding float_read
returns-then-starts_with c =
    let text = c.args.text.now in
    let rest : take (length text - 2) (drop 2 text) ≡ drop 2 text = take_all (length text - 2) (drop 2 text) (omega (arith, length-drop 2 text)) in
    c.read_bits.ensures ∙ ap (bits_read c.args.format) rest
    ∙ sym (cond-true _ (bits_read c.args.format (drop 2 text)) (value_read c.args.format text) (sym c.starts_with.ensures.value ∙ c.if-starts_with.true))

pub returns-else-starts_with : goal.returns-else-starts_with
unfolding float_read
returns-else-starts_with c =
    let text = c.args.text.now in
    c.read_value.ensures ∙ sym (cond-false _ (bits_read c.args.format (drop 2 text)) (value_read c.args.format text) (sym c.starts_with.ensures.value ∙ c.if-starts_with.false))
