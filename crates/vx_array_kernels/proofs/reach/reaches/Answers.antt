use Rattle.std.proofs.Common.{◌≡◌, ◌∙◌, ap, sym, eqb, length, drop, arith}
use Rattle.std.proofs.lemmas.Nat.Bits.{shr_and_one}
use Rattle.vx_array_loops.specs.WordBits.{bit_of}
use Rattle.vx_array_kernels.proofs.Along.{all_on, start, step_on}
use Rattle.vx_array_kernels.specs.Reach.{alive, row}
use Rattle.vx_array_kernels.proofs.reach.reaches.Goals as goal

pub loop-step-init : goal.loop-step-init
loop-step-init c = λ ci bytes ps are room ascii. start ps (row ci bytes c.args.from c.args.len)

pub loop-step-preserved : goal.loop-step-preserved
loop-step-preserved c = λ ci bytes ps are room ascii.
    step_on ci bytes ps c.args.steps.now c.loop-step.step-index c.step-item.result c.loop-step.reached c.along-reached.result c.args.from c.args.len are c.loop-step-test.true c.step-item.is (c.loop-step.invariant ci bytes ps are room ascii)
    (λ p qs is. c.along-reached.ensures ci bytes p qs c.args.len is c.requires room ascii)

pub returns : goal.returns
returns c = λ ci bytes ps are room ascii.
    let end : c.loop-step.step-index ≡ length c.args.steps.now = omega (arith, c.loop-step-test.false, c.loop-step.auto.step-index-end) in
    ap (λ n. eqb n 1) (shr_and_one c.loop-step.reached c.args.len)
    ∙ all_on ci bytes ps c.args.steps.now c.loop-step.reached c.args.from c.args.len are room (ap (λ k. alive (bit_of c.loop-step.reached) (drop k ps) (row ci bytes c.args.from c.args.len)) (sym end) ∙ c.loop-step.invariant ci bytes ps are room ascii)
