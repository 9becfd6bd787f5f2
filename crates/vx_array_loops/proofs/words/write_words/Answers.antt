use Rattle.std.proofs.Common.{◌/◌, ◌%◌, arith}
use Rattle.vx_array_loops.proofs.WordBits.{more_words}
use Rattle.vx_array_loops.proofs.words.write_words.Goals as goal

pub loop-j-preserved : goal.loop-j-preserved
loop-j-preserved g c = λ k b lt is.
    more_words (λ k b. goal.F-post g c.args.f.now k b) c.loop-j.j 64 c.loop-j.words c.word_of.result (omega arith) (omega arith) c.loop-j.invariant c.word_of.ensures k b (omega arith) is

pub returns-then-rest-eq0 : goal.returns-then-rest-eq0
returns-then-rest-eq0 g c = λ k b lt is. c.loop-j.invariant k b (omega arith) is

pub returns : goal.returns
returns g c = λ k b lt is.
    more_words (λ k b. goal.F-post g c.args.f.now k b) (c.args.count / 64) (c.args.count % 64) c.loop-j.words c.word_of-2.result (omega arith) (omega arith) (λ k b lt is. c.loop-j.invariant k b (omega arith) is) c.word_of-2.ensures k b (omega arith) is
