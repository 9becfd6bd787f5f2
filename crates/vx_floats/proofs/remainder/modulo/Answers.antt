use Rattle.std.proofs.Common.{◌≡◌, ◌-◌, ◌*◌, ◌%◌, ◌^◌, ◌<◌, ◌≤◌, sym, ap, subst, ◌∙◌, arith, mod-lt}
use Rattle.std.proofs.lemmas.Nat.{mul-mod_first, shl_whole}
use Rattle.vx_floats.proofs.Remainders.{stepped}
use Rattle.vx_floats.proofs.remainder.modulo.Goals as goal

pub loop-left-init : goal.loop-left-init
loop-left-init c =
    let n = c.args.number in
    let d = c.args.divisor in
    let p = 2 ^ c.args.places in
    let is : c.from.result % c.from-modulus.result ≡ n % d = (λ i. c.from.ensures i % c.from-modulus.ensures i) in
    (ap (λ r. r * p % d) is ∙ mul-mod_first n p d, subst (λ r. r < d) (sym is) (mod-lt n c.requires.0))

pub loop-left-preserved : goal.loop-left-preserved
loop-left-preserved c =
    let r = c.loop-left.rest in
    let d = c.args.divisor in
    let p = c.loop-left.left in
    let s = c.min-step.result in
    let within : s ≤ p = omega arith in
    let small : r < 2 ^ 53 = omega (arith, c.loop-left.invariant.1, c.requires.1) in
    let is : r * 2 ^ s % 2 ^ 128 % c.from-modulus.result ≡ r * 2 ^ s % d = (λ i. shl_whole r 53 s 128 small (omega arith) i % c.from-modulus.ensures i) in
    (ap (λ n. n * 2 ^ (p - s) % d) is ∙ stepped r s p d within ∙ c.loop-left.invariant.0, subst (λ n. n < d) (sym is) (mod-lt (r * 2 ^ s) c.requires.0))
