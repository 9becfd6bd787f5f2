use Rattle.std.proofs.Common.{eqb, arith, w32, ap, ◌∙◌}
use Rattle.std.proofs.lemmas.Simd.{bitmask_splat}
use Rattle.vx_array_loops.specs.WordBits.{bit_of}
use Rattle.vx_array_loops.proofs.WordBits.{bit_of_block}
use Rattle.vx_array_loops.proofs.words.wide_packed.Goals as goal

pub returns : goal.returns
returns c = λ i lt. ap (λ w. bit_of w i) (bitmask_splat w32 eqb c.args.block.now 64 1 (omega arith) (omega arith)) ∙ bit_of_block c.args.block.now i (omega arith)
