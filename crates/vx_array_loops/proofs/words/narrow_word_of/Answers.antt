use Rattle.std.proofs.Common.{◌+◌, arith, rules}
use Rattle.vx_array_loops.proofs.WordBits.{more_bytes}
use Rattle.vx_array_loops.proofs.words.narrow_word_of.Goals as goal

pub loop-i-preserved : goal.loop-i-preserved
loop-i-preserved g c = record {
  long = search rules;
  each = more_bytes (λ k b. goal.F-post g c.args.f.now (c.args.from + k) b) c.loop-i.i c.loop-i.block c.from.result c.f.result (omega arith) c.loop-i.invariant.each c.from.ensures (search rules);
}
