use Rattle.std.proofs.Common.{◌≡◌, sym, ap, ◌∙◌, arith, map, pos, rules, to_z, of_z}
use Rattle.std.specs.Int.{w128}
use Rattle.vx_value.specs.declared.value.Value.{Int}
use Rattle.vx_value.specs.Views.{value_of}
use Rattle.std.proofs.lemmas.List.{length-map}
use Rattle.vx_value.specs.Types.{int}
use Rattle.vx_array.specs.Kinds.{numbers_in}
use Rattle.vx_array.proofs.Masked.{row_there, row_missing, both_so}
use Rattle.vx_array.proofs.Reading.{value_of-Int, value_of-Null}
use Rattle.vx_array.proofs.values.number_at.Goals as goal

pub number-requires : goal.number-requires
number-requires c =
    let so = both_so c.args.validity.now c.len.result c.args.i (sym c.has_row.ensures ∙ c.if-has_row.true) in
    omega (arith, so.0, c.len.ensures)

pub returns-then-has_row : goal.returns-then-has_row
returns-then-has_row c =
    let so = both_so c.args.validity.now c.len.result c.args.i (sym c.has_row.ensures ∙ c.if-has_row.true) in
    let same : to_z w128 (of_z w128 c.number.result) ≡ c.number.result = search rules in
    ap (λ z. value_of (Int z)) same ∙ value_of-Int c.number.result ∙ row_there int c.args.validity.now (numbers_in c.args.numbers.now) c.args.i c.number.result (pos 0) (omega (arith, so.0, c.len.ensures)) so.1 c.number.ensures

pub returns : goal.returns
returns c = value_of-Null ∙ row_missing c.args.validity.now (map int (numbers_in c.args.numbers.now)) c.len.result c.args.i (c.len.ensures ∙ sym (length-map (numbers_in c.args.numbers.now) int)) (sym c.has_row.ensures ∙ c.if-has_row.false)
