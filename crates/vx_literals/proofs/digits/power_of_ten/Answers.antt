use Rattle.std.proofs.Common.{◌^◌, ap, arith}
use Rattle.std.proofs.Math.Nat.{pow-le-pow_right, one-le-pow}
use Rattle.vx_literals.proofs.digits.power_of_ten.Goals as goal

pub pow-requires : goal.pow-requires
pow-requires c = omega (arith, pow-le-pow_right {n = 10} (omega arith) c.requires, ap (λ e. 10 ^ e) c.from.ensures)

pub returns-clause-some : goal.returns-clause-some
returns-clause-some c = omega (arith, one-le-pow c.args.exponent 10 (omega arith), ap (λ e. 10 ^ e) c.from.ensures, c.pow.ensures)

pub returns-clause-bound : goal.returns-clause-bound
returns-clause-bound c = omega (arith, pow-le-pow_right {n = 10} (omega arith) c.requires, ap (λ e. 10 ^ e) c.from.ensures, c.pow.ensures)
