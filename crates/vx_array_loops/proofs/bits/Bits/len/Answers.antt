use Rattle.std.proofs.Common.{sym, ap, ◌∙◌, length}
use Rattle.vx_array_loops.proofs.RowBits.{length-first_bits}
use Rattle.vx_array_loops.proofs.bits.Bits.len.Goals as goal

pub returns : goal.returns
returns c = sym (length-first_bits c.self.inside.len c.self.inside.words.items) ∙ ap length c.self.view_is
