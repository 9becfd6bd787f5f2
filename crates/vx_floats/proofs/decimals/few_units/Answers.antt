use Rattle.std.proofs.Common.{◌≡◌, ℕ, ◌*◌, ◌-◌, ◌^◌, Some, None, cond, sym, ap, ◌∙◌, arith, le_of_lt}
use Rattle.std.specs.Prelude.{Option, nat_lt}
use Rattle.std.specs.Float.{ratio_round_half_up}
use Rattle.std.proofs.lemmas.Bool.{cond-true, lt-ltb}
use Rattle.vx_floats.specs.Parts.{den_of, num_of}
use Rattle.vx_floats.specs.Texts.{units_of}
use Rattle.vx_floats.proofs.Units.{scaled_small, units_lowered, units_raised}
use Rattle.vx_floats.proofs.decimals.few_units.Goals as goal

abbrev few : ℕ → Option ℕ
few n = cond (nat_lt n (10 ^ 38)) (Some n) None

pub overflow_mul-scaled : goal.overflow_mul-scaled
overflow_mul-scaled c = omega (arith, scaled_small c.from.result c.power_of_ten.result c.args.scale (omega arith) c.requires.scale c.power_of_ten.ensures.value)

pub lowered-requires : goal.lowered-requires
lowered-requires c = omega (arith, scaled_small c.from.result c.power_of_ten.result c.args.scale (omega arith) c.requires.scale c.power_of_ten.ensures.value)

pub returns-then-fraction : goal.returns-then-fraction
returns-then-fraction c =
    let r = c.args.fraction in
    let scaled : c.from.result * c.power_of_ten.result ≡ r.significand * 10 ^ c.args.scale = (λ i. c.from.ensures i * c.power_of_ten.ensures.value i) in
    c.raised.ensures
    ∙ ap few (ap (λ n. n * 2 ^ (r.exponent - r.lowest)) scaled ∙ sym (units_raised r.significand r.exponent r.lowest c.args.scale (le_of_lt c.if-fraction.true)))

pub returns-else-fraction : goal.returns-else-fraction
returns-else-fraction c =
    let r = c.args.fraction in
    let scaled : c.from.result * c.power_of_ten.result ≡ r.significand * 10 ^ c.args.scale = (λ i. c.from.ensures i * c.power_of_ten.ensures.value i) in
    let small = scaled_small c.from.result c.power_of_ten.result c.args.scale (omega arith) c.requires.scale c.power_of_ten.ensures.value in
    let units : c.lowered.result ≡ units_of (num_of r) (den_of r) c.args.scale = c.lowered.ensures.value ∙ ap (λ n. ratio_round_half_up n (2 ^ (r.lowest - r.exponent))) scaled ∙ sym (units_lowered r.significand r.exponent r.lowest c.args.scale c.if-fraction.false) in
    sym (cond-true _ (Some c.lowered.result) None (lt-ltb c.lowered.result (10 ^ 38) (omega (arith, small)))) ∙ ap few units
