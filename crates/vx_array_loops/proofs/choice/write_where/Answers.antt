use Rattle.std.proofs.Common.{◌≡◌, ◌*◌, ◌+◌, ◌/◌, ◌%◌, length, arith, true, false, refl, get_or}
use Rattle.vx_array_loops.proofs.Where.{put_at}
use Rattle.vx_array_loops.proofs.choice.write_where.Goals as goal

pub loop-j-preserved : goal.loop-j-preserved
loop-j-preserved g c =
    let j = c.loop-j.j in
    let mask = c.args.mask.now in
    let words = c.words-words.result.now in
    record {
      on = λ k x lt. put_at (λ k x. goal.F-post g c.args.f k x) true mask words j 64 _ c.loop-j.rows c.write_word.new.rows (omega arith) (omega arith) c.words-words.ensures.bits refl c.write_word.ensures.on c.write_word.ensures.before c.loop-j.invariant.on k x (omega arith);
      off = λ k x lt. put_at (λ k x. x ≡ get_or c.args.rows.now k x) false mask words j 64 _ c.loop-j.rows c.write_word.new.rows (omega arith) (omega arith) c.words-words.ensures.bits refl
          (λ i x lt bit is. c.loop-j.invariant.left (64 * j + i) x (omega arith) (c.write_word.ensures.off i x lt bit is)) c.write_word.ensures.before c.loop-j.invariant.off k x (omega arith);
      left = λ k x le is. c.loop-j.invariant.left k x (omega arith) (c.write_word.ensures.behind k x (omega arith) is);
    }

pub returns-then-rest-gt0-clause-on : goal.returns-then-rest-gt0-clause-on
returns-then-rest-gt0-clause-on g c = λ k x lt.
    let j = length c.args.rows.now / 64 in
    put_at (λ k x. goal.F-post g c.args.f k x) true c.args.mask.now c.words-words.result.now j (length c.loop-j.rows % 64) _ c.loop-j.rows c.write_word-then-rest-gt0.new.rows (omega arith) (omega arith) c.words-words.ensures.bits refl
    c.write_word-then-rest-gt0.ensures.on c.write_word-then-rest-gt0.ensures.before (λ k x lt. c.loop-j.invariant.on k x (omega arith)) k x (omega arith)

pub returns-then-rest-gt0-clause-off : goal.returns-then-rest-gt0-clause-off
returns-then-rest-gt0-clause-off g c = λ k x lt.
    let j = length c.args.rows.now / 64 in
    put_at (λ k x. x ≡ get_or c.args.rows.now k x) false c.args.mask.now c.words-words.result.now j (length c.loop-j.rows % 64) _ c.loop-j.rows c.write_word-then-rest-gt0.new.rows (omega arith) (omega arith) c.words-words.ensures.bits refl
    (λ i x lt bit is. c.loop-j.invariant.left (64 * j + i) x (omega arith) (c.write_word-then-rest-gt0.ensures.off i x lt bit is)) c.write_word-then-rest-gt0.ensures.before (λ k x lt. c.loop-j.invariant.off k x (omega arith)) k x (omega arith)
