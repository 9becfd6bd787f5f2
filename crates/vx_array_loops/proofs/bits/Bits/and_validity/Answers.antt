use Rattle.std.proofs.Common.{rules}
use Rattle.vx_array_loops.specs.Logic.{and_valid}
use Rattle.vx_array_loops.proofs.RowBits.{and_valid_bits}
use Rattle.vx_array_loops.proofs.bits.Bits.and_validity.Goals as goal

pub returns : goal.returns
returns c = c.combine_three.ensures and_valid (λ v a w b n i post low. and_valid_bits v a w b n i (search rules) low)
