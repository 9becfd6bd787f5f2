use Rattle.std.proofs.Common.{◌+◌, ◌*◌, ◌∙◌, ap, sym, arith, length}
use Rattle.std.specs.Prelude.{drop}
use Rattle.std.proofs.Math.Nat.{pow-le-pow_right}
use Rattle.vx_literals.specs.Digits.{digits_behind}
use Rattle.vx_literals.proofs.DigitsRead.{more_digits, few_digits, none_read, some_read, all_read}
use Rattle.vx_literals.proofs.digits.digits_behind.Goals as goal

pub overflow_mul-read : goal.overflow_mul-read
overflow_mul-read c = let few = few_digits c.loop-i.read (c.args.before + c.loop-i.i) c.loop-i.invariant.1 (omega (arith, c.requires.few, c.loop-i-test.true)) in omega arith

pub returns-in_err-digit_of-clause-number : goal.returns-in_err-digit_of-clause-number
returns-in_err-digit_of-clause-number c = c.from_residual.ensures ∙ sym (none_read c.loop-i.read c.args.bytes.now c.loop-i.i c.loop-i-test.true (sym c.digit_of.ensures.digit ∙ c.in_err-digit_of.was)) ∙ c.loop-i.invariant.0

pub overflow_add-read : goal.overflow_add-read
overflow_add-read c = let few = few_digits c.loop-i.read (c.args.before + c.loop-i.i) c.loop-i.invariant.1 (omega (arith, c.requires.few, c.loop-i-test.true)) in omega (arith, c.from.ensures, c.in_ok-digit_of.ensures.bound)

pub loop-i-preserved : goal.loop-i-preserved
loop-i-preserved c =
    let read = some_read c.loop-i.read c.args.bytes.now c.loop-i.i _ c.loop-i-test.true (sym c.in_ok-digit_of.ensures.digit) in (
      ap (λ d. digits_behind (10 * c.loop-i.read + d) (drop (c.loop-i.i + 1) c.args.bytes.now)) c.from.ensures ∙ sym read ∙ c.loop-i.invariant.0,
      more_digits c.loop-i.read c.from.result (c.args.before + c.loop-i.i) (c.args.before + (c.loop-i.i + 1)) c.loop-i.invariant.1 (omega (arith, c.from.ensures, c.in_ok-digit_of.ensures.bound)) (omega arith),
    )

pub returns-clause-number : goal.returns-clause-number
returns-clause-number c = sym (all_read c.loop-i.read c.args.bytes.now c.loop-i.i (omega (arith, c.loop-i-test.false))) ∙ c.loop-i.invariant.0

pub returns-clause-small : goal.returns-clause-small
returns-clause-small c =
    let bound = pow-le-pow_right {n = 10} (omega arith) {i = c.args.before + c.loop-i.i} {j = c.args.before + length c.args.bytes.now} (omega (arith, c.loop-i.auto.i-end)) in
    omega (arith, c.loop-i.invariant.1)
