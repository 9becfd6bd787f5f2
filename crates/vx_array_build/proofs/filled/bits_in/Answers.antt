use Rattle.std.proofs.Common.{◌≡◌, ◌∙◌, ap, false, of_z, pos, rules, subst, sym, to_z}
use Rattle.std.specs.Int.{w128}
use Rattle.std.specs.Prelude.{MatchOption}
use Rattle.vx_value.specs.Views.{value_of}
use Rattle.vx_array.specs.Kinds.{float_of}
use Rattle.vx_array.proofs.Reading.{value_of-Float}
use Rattle.vx_array_build.proofs.Reals.{narrowed_float}
use Rattle.vx_array_build.proofs.filled.bits_in.Goals as goal

pub returns-in-Some : goal.returns-in-Some
returns-in-Some g c =
    let f = g.T.FloatBits.format in
    let held : float_of f c.in-Some.bits ≡ c.in-Float.float = ap (λ t. float_of t c.in-Some.bits) (sym c.float_type.ensures) ∙ c.in-Some.ensures in
    let same : to_z w128 (of_z w128 (pos c.in-Some.bits)) ≡ pos c.in-Some.bits = search rules in
    let told = subst (λ z. MatchOption c.narrowed.result (g.T.Number.fits z ≡ false) (λ y. g.T.Number.number y ≡ z)) same c.narrowed.ensures in
    narrowed_float g.T.Number.number g.T.Number.fits f c.in-Some.bits c.in-Float.float (value_of c.args.value.now) c.narrowed.result held (ap value_of c.in-Float.is ∙ value_of-Float c.in-Float.float) told
