use Rattle.std.proofs.Common.{◌≡◌, ℕ, ◌^◌, ◌≤◌, Bool, true, false, ◌&&◌, Some, None, cond, refl, sym, ap, subst, ◌∙◌}
use Rattle.std.proofs.lemmas.Bool.{cond-false, cond-true}
use Rattle.vx_floats.specs.Floats.{format_of, same_float}
use Rattle.vx_floats.specs.Parts.{den_of, num_of}
use Rattle.vx_floats.specs.Texts.{is_enough, nearest, units_of}
use Rattle.vx_floats.proofs.Enough.{enough}
use Rattle.vx_floats.proofs.decimals.units_at.Goals as goal

-- what the first test gave, and what both give
refused : (first second : Bool) (u : ℕ) → None ≡ cond first (Some u) None → None ≡ cond (first && second) (Some u) None
refused true second u e = cc
refused false second u e = refl

kept : (first second : Bool) (u n : ℕ) → Some n ≡ cond first (Some u) None → (n ≡ u) × (cond second (Some n) None ≡ cond (first && second) (Some u) None)
kept true second u n e = let same : n ≡ u = cc in (same, ap (λ m. cond second (Some m) None) same)
kept false second u n e = cc

pub returns-in_err-units : goal.returns-in_err-units
unfolding is_enough
returns-in_err-units c = c.from_residual.ensures ∙ refused _ _ _ c.in_err-units.ensures

pub returns-then-units-ge-ENOUGH : goal.returns-then-units-ge-ENOUGH
unfolding is_enough
returns-then-units-ge-ENOUGH c =
    let r = c.args.fraction in
    let n = c.in_ok-units.units in
    let is = kept _ (same_float (nearest (format_of c.args.number) r.negative (units_of (num_of r) (den_of r) c.args.scale) (10 ^ c.args.scale)) c.args.number) _ n c.in_ok-units.ensures in
    sym (cond-true _ (Some n) None (enough c.args.number r c.args.scale c.requires.fraction (subst (λ m. 10 ^ 17 ≤ m) is.0 c.if-units-ge-ENOUGH.true))) ∙ is.1

pub returns-then-is_same : goal.returns-then-is_same
unfolding is_enough
returns-then-is_same c =
    let r = c.args.fraction in
    let n = c.in_ok-units.units in
    let is = kept _ (same_float (nearest (format_of c.args.number) r.negative (units_of (num_of r) (den_of r) c.args.scale) (10 ^ c.args.scale)) c.args.number) _ n c.in_ok-units.ensures in
    let read : c.nearest-read.result ≡ nearest (format_of c.args.number) r.negative (units_of (num_of r) (den_of r) c.args.scale) (10 ^ c.args.scale) = c.nearest-read.ensures ∙ (λ i. nearest (c.float_type.ensures i) r.negative (is.0 i) (10 ^ c.args.scale)) in
    sym (cond-true _ (Some n) None (sym (ap (λ x. same_float x c.args.number) read) ∙ sym c.is_same.ensures ∙ c.if-is_same.true)) ∙ is.1

pub returns-else-is_same : goal.returns-else-is_same
unfolding is_enough
returns-else-is_same c =
    let r = c.args.fraction in
    let n = c.in_ok-units.units in
    let is = kept _ (same_float (nearest (format_of c.args.number) r.negative (units_of (num_of r) (den_of r) c.args.scale) (10 ^ c.args.scale)) c.args.number) _ n c.in_ok-units.ensures in
    let read : c.nearest-read.result ≡ nearest (format_of c.args.number) r.negative (units_of (num_of r) (den_of r) c.args.scale) (10 ^ c.args.scale) = c.nearest-read.ensures ∙ (λ i. nearest (c.float_type.ensures i) r.negative (is.0 i) (10 ^ c.args.scale)) in
    sym (cond-false _ (Some n) None (sym (ap (λ x. same_float x c.args.number) read) ∙ sym c.is_same.ensures ∙ c.if-is_same.false)) ∙ is.1
