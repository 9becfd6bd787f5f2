use Rattle.std.proofs.Common.{◌∙◌, map, sym}
use Rattle.vx_array.specs.Kinds.{spans_in, text_row}
use Rattle.vx_array.proofs.Masked.{row_null, row_there}
use Rattle.vx_array_kernels.proofs.likeness.text_at.Goals as goal

pub returns-then-is_valid : goal.returns-then-is_valid
returns-then-is_valid c =
    c.as_text.ensures ∙ row_there text_row c.args.texts.validity.now (spans_in c.args.texts.spans.now) c.args.k c.span.result.now c.span.result.now c.requires (sym c.is_valid.ensures ∙ c.if-is_valid.true) c.span.ensures

pub returns : goal.returns
returns c = row_null c.args.texts.validity.now (map text_row (spans_in c.args.texts.spans.now)) c.args.k (sym c.is_valid.ensures ∙ c.if-is_valid.false)
