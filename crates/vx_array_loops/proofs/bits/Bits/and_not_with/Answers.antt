use Rattle.std.proofs.Common.{◌&&◌, not, rules}
use Rattle.vx_array_loops.proofs.RowBits.{and_not_bits}
use Rattle.vx_array_loops.proofs.bits.Bits.and_not_with.Goals as goal

pub returns : goal.returns
returns c = c.combine.ensures (λ a b. a && not b) (λ a b w i post low. and_not_bits a b w i (search rules) low)
