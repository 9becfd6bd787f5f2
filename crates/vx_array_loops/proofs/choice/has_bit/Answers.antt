use Rattle.std.proofs.Common.{refl, arith, ◌%◌}
use Rattle.vx_array_loops.proofs.WordBits.{bit_in_byte, power_in_byte}
use Rattle.vx_array_loops.proofs.choice.has_bit.Goals as goal

pub returns : goal.returns
returns c = bit_in_byte c.args.word c.args.i _ _ c.requires refl (power_in_byte (c.args.i % 8) (omega arith))
