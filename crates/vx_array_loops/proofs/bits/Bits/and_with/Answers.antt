use Rattle.std.proofs.Common.{◌&&◌, rules}
use Rattle.vx_array_loops.proofs.RowBits.{and_bits}
use Rattle.vx_array_loops.proofs.bits.Bits.and_with.Goals as goal

pub returns : goal.returns
returns c = c.combine.ensures (λ a b. a && b) (λ a b w i post low. and_bits a b w i (search rules))
