use Rattle.std.proofs.Common.{sym, ap, ◌∙◌, arith, map}
use Rattle.std.proofs.Output.{has_written_of_eq}
use Rattle.std.proofs.lemmas.List.{length-map}
use Rattle.vx_value.specs.Types.{bytes}
use Rattle.vx_value.specs.ValueTexts.{value_text}
use Rattle.vx_value.specs.Views.{type_of}
use Rattle.vx_array.specs.Kinds.{spans_in}
use Rattle.vx_array.proofs.Masked.{row_there, row_missing, both_so}
use Rattle.vx_array.proofs.texts.write_octets_row.Goals as goal

pub span-requires : goal.span-requires
span-requires g c =
    let so = both_so c.args.validity.now c.len.result c.args.i (sym c.has_row.ensures ∙ c.if-has_row.true) in
    omega (arith, so.0, c.len.ensures)

pub returns-then-has_row : goal.returns-then-has_row
returns-then-has_row g c plain ok =
    let so = both_so c.args.validity.now c.len.result c.args.i (sym c.has_row.ensures ∙ c.if-has_row.true) in
    let here = row_there bytes c.args.validity.now (spans_in c.args.spans.now) c.args.i c.span.result.now c.span.result.now (omega (arith, so.0, c.len.ensures)) so.1 c.span.ensures in
    has_written_of_eq _ _ _ _ _ (ap (λ v. value_text v (type_of c.args.t.now)) here) (c.write_octets.ensures plain ok)

pub returns : goal.returns
returns g c plain ok =
    let none = row_missing c.args.validity.now (map bytes (spans_in c.args.spans.now)) c.len.result c.args.i (c.len.ensures ∙ sym (length-map (spans_in c.args.spans.now) bytes)) (sym c.has_row.ensures ∙ c.if-has_row.false) in
    has_written_of_eq _ _ _ _ _ (ap (λ v. value_text v (type_of c.args.t.now)) none) (c.write_str.ensures.writes plain ok)
