use Rattle.std.proofs.Common.{◌≡◌, ◌∙◌, ap, arith, ℤ, pos, ◌+ℤ◌, ◌-ℤ◌, ◌*ℤ◌}
use Rattle.std.proofs.lemmas.Int.{ints}
use Rattle.vx_literals.specs.Instants.{units_a_second}
use Rattle.vx_literals.proofs.instants.instant_of.Goals as goal

pub overflow_add-result : goal.overflow_add-result
overflow_add-result c = omega (arith, ints, c.requires.part, c.in_units.ensures.bound)

pub returns : goal.returns
returns c =
    let seconds : ℤ = c.args.day *ℤ pos 86400 +ℤ pos c.args.second -ℤ c.args.offset in
    let units : c.in_units.result ≡ seconds *ℤ pos (units_a_second c.args.unit) = c.in_units.ensures.units ∙ ap (λ s. s *ℤ pos (units_a_second c.args.unit)) (omega (arith, ints, c.from.ensures, c.requires.day, c.requires.second, c.requires.offset)) in
    omega (arith, ints, c.requires.part, c.in_units.ensures.bound) ∙ ap (λ n. n +ℤ pos c.args.part) units
