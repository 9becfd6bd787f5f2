use Rattle.std.proofs.Common.{◌∙◌, ap}
use Rattle.vx_array.proofs.Spanned.{span_read}
use Rattle.vx_array.proofs.spans.Spans.span.Goals as goal

pub returns : goal.returns
returns c = span_read c.args.self.now c.args.k c.as_slice-offsets.result.now c.as_slice.result.now c.cut.result.now c.cut.ensures c.as_slice-offsets.ensures (c.as_slice.ensures.value ∙ ap (λ v. v.items) c.deref.ensures) c.requires
