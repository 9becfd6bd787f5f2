use Rattle.std.proofs.Common.{◌∙◌, ap, subst}
use Rattle.vx_data_buffers.specs.Laid.{SayValid, packed_bytes}
use Rattle.vx_data_buffers.proofs.LaidOut.{have_truths}
use Rattle.vx_data_buffers.proofs.laid.truths_laid.Goals as goal

pub returns : goal.returns
returns c =
    let bits = c.args.bits.now in
    let v = c.args.validity.now in
    have_truths c.two.result c.in_ok-valid.valid.items c.in_ok-values.values.items bits v c.two.ensures
    (subst (λ n. SayValid c.in_ok-valid.valid.items n v) c.len.ensures c.in_ok-valid.ensures) (c.in_ok-values.ensures ∙ ap packed_bytes c.in_ok-to_bits.ensures)
