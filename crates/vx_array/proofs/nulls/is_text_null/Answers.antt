use Rattle.std.proofs.Common.{sym, ap, ◌∙◌, arith, map}
use Rattle.std.proofs.lemmas.List.{length-map}
use Rattle.vx_value.specs.Types.{is_null_datum}
use Rattle.vx_array.specs.Kinds.{spans_in, text_row}
use Rattle.vx_array.proofs.Masked.{row_there, row_missing, both_so}
use Rattle.vx_array.proofs.nulls.is_text_null.Goals as goal

pub span-requires : goal.span-requires
span-requires c =
    let so = both_so c.args.validity.now c.len.result c.args.i (sym c.has_row.ensures ∙ c.if-has_row.true) in
    omega (arith, so.0, c.len.ensures)

pub returns-then-has_row : goal.returns-then-has_row
returns-then-has_row c =
    let so = both_so c.args.validity.now c.len.result c.args.i (sym c.has_row.ensures ∙ c.if-has_row.true) in
    c.is_no_text.ensures ∙ ap is_null_datum (row_there text_row c.args.validity.now (spans_in c.args.spans.now) c.args.i c.span.result.now c.span.result.now (omega (arith, so.0, c.len.ensures)) so.1 c.span.ensures)

pub returns : goal.returns
returns c = ap is_null_datum (row_missing c.args.validity.now (map text_row (spans_in c.args.spans.now)) c.len.result c.args.i (c.len.ensures ∙ sym (length-map (spans_in c.args.spans.now) text_row)) (sym c.has_row.ensures ∙ c.if-has_row.false))
