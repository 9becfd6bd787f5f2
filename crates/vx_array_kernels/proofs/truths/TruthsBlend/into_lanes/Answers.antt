use Rattle.std.proofs.Common.{◌≡◌, ◌∙◌, ap, length, map, sym}
use Rattle.std.proofs.lemmas.List.{length-map}
use Rattle.vx_value.specs.Types.{bool}
use Rattle.vx_array.proofs.Held.{rows-Bools}
use Rattle.vx_array_kernels.proofs.Bits.{masked_truths}
use Rattle.vx_array_kernels.proofs.truths.TruthsBlend.into_lanes.Goals as goal

pub returns : goal.returns
returns c =
    let bits = c.in_ok-new.field-0 in
    let long : length (map bool bits) ≡ c.len.result = length-map bits bool ∙ ap length c.in_ok-new.ensures ∙ sym c.len.ensures in
    rows-Bools bits _ ∙ c.in_ok-validity.ensures.shown (map bool bits) long ∙ masked_truths c.self.inside.valid c.self.inside.bits bits c.args.self c.in_ok-new.ensures c.self.invariant c.self.view_is
