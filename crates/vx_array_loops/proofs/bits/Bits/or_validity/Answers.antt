use Rattle.std.proofs.Common.{rules}
use Rattle.vx_array_loops.specs.Logic.{or_valid}
use Rattle.vx_array_loops.proofs.RowBits.{or_valid_bits}
use Rattle.vx_array_loops.proofs.bits.Bits.or_validity.Goals as goal

pub returns : goal.returns
returns c = c.combine_three.ensures or_valid (λ v a w b n i post low. or_valid_bits v a w b n i (search rules))
