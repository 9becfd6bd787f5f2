use Rattle.std.proofs.Common.{sym, ◌∙◌, arith, map}
use Rattle.std.proofs.lemmas.List.{length-map}
use Rattle.vx_value.specs.Types.{float}
use Rattle.vx_array.specs.Kinds.{floats_in}
use Rattle.vx_array.proofs.Masked.{row_there, row_missing, both_so}
use Rattle.vx_array.proofs.Reading.{value_of-Float, value_of-Null}
use Rattle.vx_array.proofs.values.float_at.Goals as goal

pub float-requires : goal.float-requires
float-requires c =
    let so = both_so c.args.validity.now c.len.result c.args.i (sym c.has_row.ensures ∙ c.if-has_row.true) in
    omega (arith, so.0, c.len.ensures)

pub returns-then-has_row : goal.returns-then-has_row
returns-then-has_row c =
    let so = both_so c.args.validity.now c.len.result c.args.i (sym c.has_row.ensures ∙ c.if-has_row.true) in
    value_of-Float c.float.result ∙ row_there float c.args.validity.now (floats_in c.args.floats.now) c.args.i c.float.result c.float.result (omega (arith, so.0, c.len.ensures)) so.1 c.float.ensures

pub returns : goal.returns
returns c = value_of-Null ∙ row_missing c.args.validity.now (map float (floats_in c.args.floats.now)) c.len.result c.args.i (c.len.ensures ∙ sym (length-map (floats_in c.args.floats.now) float)) (sym c.has_row.ensures ∙ c.if-has_row.false)
