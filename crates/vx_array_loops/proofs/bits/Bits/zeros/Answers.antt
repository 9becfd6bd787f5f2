use Rattle.std.proofs.Common.{rules}
use Rattle.vx_array_loops.proofs.RowBits.{no_bits}
use Rattle.vx_array_loops.proofs.bits.Bits.zeros.Goals as goal

pub returns : goal.returns
returns c = no_bits c.args.len c.div_ceil.result _ (c.in_ok-words.ensures.items_if_clones_equal (λ y h. search rules))
