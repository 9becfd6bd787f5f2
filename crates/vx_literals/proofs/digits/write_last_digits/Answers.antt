use Rattle.std.proofs.Common.{◌≡◌, ◌-◌, [], ap, arith, refl}
use Rattle.std.proofs.Output.{has_written_append, has_written_of_eq, writes_in_calls_nil}
use Rattle.vx_literals.specs.Digits.{last_digits}
use Rattle.vx_literals.proofs.LastDigits.{digit_next, digits_all}
use Rattle.vx_literals.proofs.digits.write_last_digits.Goals as goal

pub loop-place-init : goal.loop-place-init
loop-place-init g c = λ plain.
    let all : c.args.count - 0 ≡ c.args.count = omega arith in
    ([], record { wrote = writes_in_calls_nil _ _; plain = plain }, ap (λ n. last_digits n c.args.number) all)

pub loop-place-preserved : goal.loop-place-preserved
loop-place-preserved g c = λ plain.
    let (done, wrote, left) = c.loop-place.invariant plain in
    let digit = c.in_ok-write_digit.ensures wrote.plain refl in (
      _,
      has_written_append _ _ _ _ _ _ wrote digit,
      digit_next c.args.count c.loop-place.place c.args.number c.power_of_ten.result done _ _ (omega arith) c.power_of_ten.ensures.value refl left,
    )

pub returns : goal.returns
returns g c = λ plain ok.
    let (done, wrote, left) = c.loop-place.invariant plain in
    has_written_of_eq _ _ _ _ _ (digits_all c.args.count c.loop-place.place c.args.number done _ (omega arith) left) wrote
