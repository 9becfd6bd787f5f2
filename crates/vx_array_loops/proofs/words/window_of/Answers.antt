use Rattle.std.proofs.Common.{arith}
use Rattle.vx_array_loops.proofs.WordBits.{split_window}
use Rattle.vx_array_loops.proofs.words.window_of.Goals as goal

pub returns : goal.returns
returns c = λ i lt. split_window c.args.words.now c.args.from c.word_at.result c.word_at-2.result i lt (omega arith) (omega arith) c.word_at.ensures c.word_at-2.ensures
