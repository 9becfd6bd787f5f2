use Rattle.std.proofs.Common.{◌≡◌, pos, false, rules}
use Rattle.std.specs.Int.{w128}
use Rattle.std.specs.Ordering.{int_eq}
use Rattle.std.proofs.lemmas.Int.{to_z-of_z}
use Rattle.vx_eval.proofs.Divisors.{not_zero, quotient}
use Rattle.vx_eval.proofs.arithmetic.exact_result.Goals as goal

pub returns-in-Quotient : goal.returns-in-Quotient
returns-in-Quotient c =
    let other : int_eq c.args.b (pos 0) ≡ false = rw c.in-Quotient.is at c.requires in
    rw (c.in-Quotient.is) (quotient c.args.a c.args.b _ c.ranges.a c.ranges.b (not_zero c.args.b c.ranges.b other) (search rules))

pub wrapping_rem-requires : goal.wrapping_rem-requires
wrapping_rem-requires c =
    let other : int_eq c.args.b (pos 0) ≡ false = rw c.in-Remainder.is at c.requires in
    rw (to_z-of_z w128 c.args.b c.ranges.b) (not_zero c.args.b c.ranges.b other)
