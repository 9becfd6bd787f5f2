use Rattle.std.proofs.Common.{◌≡◌, ◌+◌, ◌*◌, ◌/◌, ◌%◌, ap, ◌∙◌, sym, arith, refl, get_or}
use Rattle.vx_array_loops.specs.WordBits.{count_true, first_bits}
use Rattle.vx_array_loops.proofs.Counted.{count_more, count_le}
use Rattle.vx_array_loops.proofs.count.count_bits.Goals as goal

pub overflow_add-ones : goal.overflow_add-ones
overflow_add-ones c =
    let ws = c.args.words.now in
    let j = c.loop-j.j in
    record { fits = omega (arith, count_more ws j 64 (get_or ws j 0) (omega arith) refl, count_le (64 * j + 64) ws, c.count_low-ones.ensures, c.loop-j.invariant) }

pub loop-j-preserved : goal.loop-j-preserved
loop-j-preserved c =
    let ws = c.args.words.now in
    let j = c.loop-j.j in
    let next : 64 * (j + 1) ≡ 64 * j + 64 = omega arith in
    ap (λ n. n + c.count_low-ones.result) c.loop-j.invariant ∙ ap (λ n. count_true (first_bits (64 * j) ws) + n) c.count_low-ones.ensures ∙ sym (count_more ws j 64 (get_or ws j 0) (omega arith) refl) ∙ ap (λ n. count_true (first_bits n ws)) (sym next)

pub returns-then-rest-eq0 : goal.returns-then-rest-eq0
returns-then-rest-eq0 c =
    let all : 64 * c.loop-j.j ≡ c.args.len = omega arith in
    c.loop-j.invariant ∙ ap (λ n. count_true (first_bits n c.args.words.now)) all

pub overflow_add-result : goal.overflow_add-result
overflow_add-result c =
    let ws = c.args.words.now in
    let j = c.args.len / 64 in
    let last : c.loop-j.j ≡ j = omega arith in
    let before : c.loop-j.ones ≡ count_true (first_bits (64 * j) ws) = c.loop-j.invariant ∙ ap (λ n. count_true (first_bits (64 * n) ws)) last in
    record { fits = omega (arith, count_more ws j (c.args.len % 64) (get_or ws j 0) (omega arith) refl, count_le (64 * j + c.args.len % 64) ws, c.count_low.ensures, before) }

pub returns : goal.returns
returns c =
    let ws = c.args.words.now in
    let j = c.args.len / 64 in
    let last : c.loop-j.j ≡ j = omega arith in
    let all : 64 * j + c.args.len % 64 ≡ c.args.len = omega arith in
    let before : c.loop-j.ones ≡ count_true (first_bits (64 * j) ws) = c.loop-j.invariant ∙ ap (λ n. count_true (first_bits (64 * n) ws)) last in
    ap (λ n. n + c.count_low.result) before ∙ ap (λ n. count_true (first_bits (64 * j) ws) + n) c.count_low.ensures ∙ sym (count_more ws j (c.args.len % 64) (get_or ws j 0) (omega arith) refl) ∙ ap (λ n. count_true (first_bits n ws)) all
