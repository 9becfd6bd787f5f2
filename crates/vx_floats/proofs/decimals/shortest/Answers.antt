use Rattle.std.proofs.Common.{◌≡◌, ℕ, suc, ◌+◌, ◌-◌, ◌^◌, ◌<◌, ◌≤◌, Bool, true, false, Some, None, cond, refl, sym, ap, ◌∙◌, arith}
use Rattle.std.specs.Prelude.{nat_lt}
use Rattle.std.specs.List.{find, range_with_len}
use Rattle.std.proofs.lemmas.Bool.{and_parts, cond-false, cond-true, ltb-true}
use Rattle.vx_floats.specs.Parts.{den_of, num_of}
use Rattle.vx_floats.specs.declared.float.Float.{Float}
use Rattle.vx_floats.specs.Floats.{format_of, same_float}
use Rattle.vx_floats.specs.Texts.{is_enough, nearest, scale_of, units_of}
use Rattle.vx_floats.proofs.decimals.shortest.Goals as goal

passed : (b : Bool) (u n : ℕ) → Some n ≡ cond b (Some u) None → (b ≡ true) × (n ≡ u)
passed true u n e = (refl, cc)
passed false u n e = cc

failed : (b : Bool) (u : ℕ) → None ≡ cond b (Some u) None → b ≡ false
failed true u e = cc
failed false u e = refl

next : (p : ℕ → Bool) (s : ℕ) → s < 23 → find p (range_with_len s (23 - s)) ≡ cond (p s) (Some s) (find p (range_with_len (s + 1) (23 - (s + 1))))
next p s h = let more : 23 - s ≡ suc (23 - (s + 1)) = omega arith in ap (λ n. find p (range_with_len s n)) more

last : (p : ℕ → Bool) (s : ℕ) → 23 ≤ s → find p (range_with_len s (23 - s)) ≡ None
last p s h = let none : 23 - s ≡ 0 = omega arith in ap (λ n. find p (range_with_len s n)) none

few : (x : Float) (negative : Bool) (num den scale : ℕ) → is_enough x negative num den scale ≡ true → units_of num den scale < 10 ^ 38
unfolding is_enough
few x negative num den scale e =
    ltb-true (units_of num den scale) (10 ^ 38) (and_parts (nat_lt (units_of num den scale) (10 ^ 38)) (same_float (nearest (format_of x) negative (units_of num den scale) (10 ^ scale)) x) e).0

pub loop-scale-init : goal.loop-scale-init
unfolding scale_of
loop-scale-init c = refl

pub returns-in-Some-clause-scale : goal.returns-in-Some-clause-scale
returns-in-Some-clause-scale c =
    let here = passed _ _ c.in-Some.units c.in-Some.ensures in
    sym (c.loop-scale.invariant ∙ next _ c.loop-scale.scale c.loop-scale-test.true ∙ cond-true _ (Some c.loop-scale.scale) _ here.0)

pub returns-in-Some-clause-bounds : goal.returns-in-Some-clause-bounds
returns-in-Some-clause-bounds c =
    let here = passed _ _ c.in-Some.units c.in-Some.ensures in
    (omega (arith, here.1, few c.args.number c.args.fraction.negative (num_of c.args.fraction) (den_of c.args.fraction) c.loop-scale.scale here.0), omega arith)

pub loop-scale-preserved : goal.loop-scale-preserved
loop-scale-preserved c =
    c.loop-scale.invariant ∙ next _ c.loop-scale.scale c.loop-scale-test.true ∙ cond-false _ (Some c.loop-scale.scale) _ (failed _ _ c.in_default.ensures)

pub returns-clause-scale : goal.returns-clause-scale
returns-clause-scale c = sym (c.loop-scale.invariant ∙ last _ c.loop-scale.scale c.loop-scale-test.false)
