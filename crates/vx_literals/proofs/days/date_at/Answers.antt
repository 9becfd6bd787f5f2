use Rattle.std.proofs.Common.{arith}
use Rattle.std.proofs.lemmas.Int.{ints}
use Rattle.jiff_core.proofs.SignedLemmas.{signed_arith}
use Rattle.vx_literals.proofs.Calendar.{at_day}
use Rattle.vx_literals.proofs.days.date_at.Goals as goal

pub returns-in-Ok : goal.returns-in-Ok
returns-in-Ok c =
    at_day c.args.day c.in-Ok.date (omega (arith, signed_arith, c.if-day-lt-FIRST.false)) (omega (arith, signed_arith, c.if-day-gt-LAST.false))
    (omega (arith, ints, c.ranges.day, c.if-day-lt-FIRST.false, c.if-day-gt-LAST.false, c.in-Ok.ensures.value))
