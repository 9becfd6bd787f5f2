use Rattle.std.proofs.Common.{sym, ◌∙◌, arith, false, map}
use Rattle.std.proofs.lemmas.List.{length-map}
use Rattle.vx_value.specs.Types.{bool}
use Rattle.vx_array.proofs.Masked.{row_there, row_missing, both_so}
use Rattle.vx_array.proofs.Reading.{value_of-Bool, value_of-Null}
use Rattle.vx_array.proofs.values.truth_at.Goals as goal

pub returns-then-has_row : goal.returns-then-has_row
returns-then-has_row c =
    let so = both_so c.args.validity.now c.len.result c.args.i (sym c.has_row.ensures ∙ c.if-has_row.true) in
    value_of-Bool c.has.result ∙ row_there bool c.args.validity.now c.args.bits.now c.args.i c.has.result false (omega (arith, so.0, c.len.ensures)) so.1 c.has.ensures

pub returns : goal.returns
returns c = value_of-Null ∙ row_missing c.args.validity.now (map bool c.args.bits.now) c.len.result c.args.i (c.len.ensures ∙ sym (length-map c.args.bits.now bool)) (sym c.has_row.ensures ∙ c.if-has_row.false)
