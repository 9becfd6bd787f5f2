use Rattle.vx_array.proofs.Parts.{moved_bits}
use Rattle.vx_array.proofs.bit_part.BitPart.slice.Goals as goal

pub returns : goal.returns
returns c = moved_bits c.self.inside.bits.value c.in_ok-clone.field-0.value c.args.self.now c.self.inside.from c.self.inside.len c.args.from c.args.len c.in_ok-clone.ensures.cases c.self.view_is c.self.invariant.0 c.requires
