use Rattle.std.proofs.Common.{◌≡◌, ◌+◌, ◌-◌, ap, arith, length, min}
use Rattle.vx_array.proofs.Spanned.{span_slice}
use Rattle.vx_array.proofs.spans.Spans.slice.Goals as goal

pub returns : goal.returns
returns c =
    let many : c.min-count.result ≡ min (length c.args.self.now.offsets - c.args.from) (c.args.len + 1) = omega (arith, c.min-count.ensures, c.saturating_add.ensures, c.len.ensures, c.len.type_inv) in
    span_slice c.args.self.now (record { offsets = c.in_ok-slice.field-0; bytes = c.in_ok-clone.field-0 }) c.args.from c.args.len c.min-count.result many c.in_ok-slice.ensures (ap (λ v. v.items) c.in_ok-clone.ensures.cases) c.requires
