use Rattle.std.proofs.Common.{◌≡◌, ℕ, ◌+◌, ◌-◌, ◌*◌, ◌/◌, ◌%◌, ◌<◌, leb, sym, ap, subst, ◌∙◌}
use lib.Ieee.{inf, nan, top}
use Rattle.vx_floats.specs.declared.parts.Pattern.{Pattern}
use Rattle.vx_floats.specs.Floats.{format_of}
use Rattle.vx_floats.specs.Parts.{IsFractionOf}
use Rattle.vx_floats.specs.Texts.{binary, bits_of, value_of}
use Rattle.vx_floats.proofs.Fields.{infinite, no_number, normal_fraction, small_fraction, value_is}
use Rattle.vx_floats.proofs.parts.parts_of.Goals as goal

-- the pattern's fields
abbrev field : Pattern → ℕ
field p = p.bits % p.sign / p.hidden

abbrev digits : Pattern → ℕ
digits p = p.bits % p.hidden

pub returns-then-digits-eq0 : goal.returns-then-digits-eq0
returns-then-digits-eq0 c =
    let x = c.args.number in
    subst (λ p. field p ≡ p.ones → digits p ≡ 0 → value_of x ≡ inf (leb p.sign p.bits)) (sym c.pattern_of-pattern.ensures.value) (λ e d. value_is x ∙ infinite (binary (format_of x)) (bits_of x) e d)
    c.if-field-pattern.true c.if-digits-eq0.true

pub returns-else-digits-eq0 : goal.returns-else-digits-eq0
returns-else-digits-eq0 c =
    let x = c.args.number in
    subst (λ p. field p ≡ p.ones → (digits p ≡ 0 → ⊥) → value_of x ≡ nan) (sym c.pattern_of-pattern.ensures.value) (λ e d. value_is x ∙ no_number (binary (format_of x)) (bits_of x) e d)
    c.if-field-pattern.true c.if-digits-eq0.false

pub returns-then-field-eq0 : goal.returns-then-field-eq0
returns-then-field-eq0 c =
    let x = c.args.number in
    subst (λ p. field p ≡ 0 → IsFractionOf x (record { negative = leb p.sign p.bits; significand = digits p; exponent = 0; lowest = p.lowest })) (sym c.pattern_of-pattern.ensures.value)
    (small_fraction x (subst (λ b. b < 2 * top (binary (format_of x))) (ap (λ p. p.bits) c.pattern_of-pattern.ensures.value) c.pattern_of-pattern.ensures.bound))
    c.if-field-eq0.true

pub returns-else-field-eq0 : goal.returns-else-field-eq0
returns-else-field-eq0 c =
    let x = c.args.number in
    subst (λ p. (field p ≡ 0 → ⊥) → (field p ≡ p.ones → ⊥) → IsFractionOf x (record { negative = leb p.sign p.bits; significand = p.hidden + digits p; exponent = field p - 1; lowest = p.lowest })) (sym c.pattern_of-pattern.ensures.value)
    (normal_fraction x (subst (λ b. b < 2 * top (binary (format_of x))) (ap (λ p. p.bits) c.pattern_of-pattern.ensures.value) c.pattern_of-pattern.ensures.bound))
    c.if-field-eq0.false c.if-field-pattern.false
