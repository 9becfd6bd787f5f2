use Rattle.std.proofs.Common.{◌≡◌, ◌∙◌, ap, sym, subst, rules, pos, to_z, of_z, Some}
use Rattle.std.specs.Prelude.{unsigned_abs}
use Rattle.std.specs.Fmt.{WritesOnOk}
use Rattle.std.specs.Int.{w128, int_div_euclid, int_rem_euclid}
use Rattle.vx_dtype.specs.Timestamps.{zone_name}
use Rattle.vx_literals.specs.Days.{civil_at}
use Rattle.vx_literals.specs.Instants.{units_a_day}
use Rattle.vx_literals.proofs.Parts.{instant_shown}
use Rattle.vx_literals.proofs.instants.write_instant.Goals as goal

pub returns-in-Some : goal.returns-in-Some
returns-in-Some g c =
    let instant : to_z w128 (of_z w128 c.args.instant) ≡ c.args.instant = search rules in
    let kept : to_z w128 (of_z w128 c.from-a_day.result) ≡ c.from-a_day.result = search rules in
    let a_day : to_z w128 (of_z w128 c.from-a_day.result) ≡ pos (units_a_day c.args.t.now.unit) = kept ∙ c.from-a_day.ensures ∙ ap pos c.units_a_day.ensures.units in
    let quotient : to_z w128 (of_z w128 c.div_euclid.result) ≡ c.div_euclid.result = search rules in
    let remainder : to_z w128 (of_z w128 c.rem_euclid.result) ≡ c.rem_euclid.result = search rules in
    let units = c.unsigned_abs.ensures.value ∙ ap unsigned_abs (remainder ∙ c.rem_euclid.ensures.value ∙ ap (λ i. int_rem_euclid i (to_z w128 (of_z w128 c.from-a_day.result))) instant ∙ ap (int_rem_euclid c.args.instant) a_day) in
    let day = c.in-Some.ensures ∙ ap civil_at (quotient ∙ c.div_euclid.ensures ∙ ap (λ i. int_div_euclid i (to_z w128 (of_z w128 c.from-a_day.result))) instant ∙ ap (int_div_euclid c.args.instant) a_day) in
    subst (λ t. WritesOnOk g.W.Write.write_str_gives c.args.f.now c.write_moment.result t c.write_moment.new.f)
    (instant_shown c.args.t.now.unit (zone_name c.args.t.now) c.args.instant _ _ units day) c.write_moment.ensures
