use Rattle.std.proofs.Common.{◌≡◌, arith}
use Rattle.std.proofs.lemmas.Int.{ints}
use Rattle.vx_literals.proofs.Calendar.{numbered}
use Rattle.vx_literals.proofs.days.day_number.Goals as goal

pub returns-in-Ok-clause-number : goal.returns-in-Ok-clause-number
returns-in-Ok-clause-number c =
    let (year, month, day) = c.in-Ok.ensures.value in
    numbered c.in-Ok.date c.args.year c.args.month c.args.day _ (omega (arith, c.if-year-eq0.false)) (omega (arith, ints, c.requires.year, year)) (omega (arith, ints, c.requires.month, month)) (omega (arith, ints, c.requires.day, day))
    (omega (arith, ints, c.from.ensures, c.to_unix_epoch_day.ensures.value))
