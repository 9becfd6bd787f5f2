-- 17 digits tell numbers of 53 binary digits apart: the number lies nearest to the units that lie nearest to it.
use Rattle.std.proofs.Common.{◌≡◌, ℕ, suc, ◌+◌, ◌-◌, ◌*◌, ◌/◌, ◌^◌, ◌<◌, ◌≤◌, true, min, inl, inr, ap, subst, ◌∙◌, arith, pow_pos, eq-zero-or-pos}
use Rattle.std.proofs.Math.Nat.{div-mul-le_self, lt-div-mul-add, mul-le-mul_left, mul-le-mul_right, pow-le-pow_right, pow-suc}
use lib.Ieee.{Format, prec, low, hid, ones}
use Rattle.fast_float.specs.Rounding.{scaled_bits, IsNearestBits, IsSignificand}
use Rattle.fast_float.proofs.ExactLemmas.{ten_to_pos}
use Rattle.fast_float.proofs.Patterns.{shape}
use Rattle.fast_float.proofs.RoundingLemmas.{nearest_of_near}
use Rattle.ryu.proofs.Signs.{signed}
use Rattle.vx_floats.specs.declared.float.Float.{Float}
use Rattle.vx_floats.specs.declared.parts.Fraction.{Fraction}
use Rattle.vx_floats.specs.Deciding.{same_float-Decides}
use Rattle.vx_floats.specs.Floats.{format_of, same_float}
use Rattle.vx_floats.specs.Parts.{IsFractionOf, den_of, num_of}
use Rattle.vx_floats.specs.Texts.{binary, nearest, number_of, units_of, value_of}
use Rattle.vx_floats.proofs.Fields.{number_is}

-- n is a / l to the nearest whole number: twice both lie within l
near : (a l n : ℕ) → 0 < l → n ≡ (2 * a + l) / (2 * l) → (2 * (n * l) ≤ 2 * a + l) × (2 * a < 2 * (n * l) + l)
near a l n some e =
    let from = div-mul-le_self (2 * a + l) (2 * l) in
    let below = lt-div-mul-add {a = 2 * a + l} {b = 2 * l} (omega arith) in
    let is = ap (λ m. m * (2 * l)) e in
    (omega (arith, from, is), omega (arith, below, is))

-- where n is more than q, and n * l lies within half of l of q * u, l is less than u
wider : (q u l n : ℕ) → q < n → 0 < l → 2 * (n * l) ≤ 2 * (q * u) + l → l < u
wider q u l n more some close = elim (eq-zero-or-pos (u - l)) [
  | inl z ↦ let few : u ≤ l = omega arith in let next : q + 1 ≤ n = omega arith in absurd (omega (arith, mul-le-mul_left q few, mul-le-mul_right l next))
  | inr p ↦ omega arith
]

regrouped : (q p d : ℕ) → q * p * d ≡ q * (d * p)
regrouped q p d = omega arith

doubled : (q d p s : ℕ) → s ≡ p * 2 → q * (d * s) ≡ 2 * q * (d * p)
doubled q d p s e = omega (arith, ap (λ n. q * (d * n)) e)

module _ (f : Format) (q k n d : ℕ) (significand : IsSignificand f q k) (some : 0 < d) (many : 10 ^ 17 ≤ n) (is : n ≡ (2 * (q * 2 ^ k * d) + 2 ^ low f) / (2 * 2 ^ low f)) where
  abbrev least : ℕ
  least = 2 ^ low f

  close : (2 * (n * least) ≤ 2 * (q * (d * 2 ^ k)) + least) × (2 * (q * (d * 2 ^ k)) < 2 * (n * least) + least)
  close = let both = near (q * 2 ^ k * d) least n (pow_pos (low f)) is in (omega (arith, both.0, regrouped q (2 ^ k) d), omega (arith, both.1, regrouped q (2 ^ k) d))

  few : 2 ^ prec f ≤ 2 ^ 53
  few = pow-le-pow_right {n = 2} (omega arith) {i = prec f} {j = 53} (shape f).digits.1

  at_zero : k ≡ 0 → IsNearestBits f n d (scaled_bits f q k)
  at_zero zero_is =
      let bound = significand.fits in
      let narrow = wider q (d * 2 ^ k) least n (omega (arith, few)) (pow_pos (low f)) close.0 in
      nearest_of_near f n d q k some (omega arith) (λ more. absurd (omega arith)) (λ more. absurd (omega arith)) (omega (arith, close.1)) (omega (arith, close.0))

  above : hid f < q → IsNearestBits f n d (scaled_bits f q k)
  above more =
      let bound = significand.fits in
      let next : hid f + 1 ≤ q = omega arith in
      let narrow = wider q (d * 2 ^ k) least n (omega (arith, few)) (pow_pos (low f)) close.0 in
      nearest_of_near f n d q k some (omega arith) (λ _. omega arith) (λ _. omega (arith, close.1, mul-le-mul_right (d * 2 ^ k) next)) (omega (arith, close.1)) (omega (arith, close.0))

  at_edge : (j : ℕ) → k ≡ suc j → hid f ≡ q → IsNearestBits f n d (scaled_bits f q k)
  at_edge j next edge =
      let s = shape f in
      let some_hid = s.some in
      let twice = s.twice in
      let units = doubled q d (2 ^ j) (2 ^ k) (ap (λ n. 2 ^ n) next ∙ pow-suc 2 j) in
      let narrow = wider (2 * q) (d * 2 ^ j) least n (omega (arith, few)) (pow_pos (low f)) (omega (arith, close.0, units)) in
      let one : 1 ≤ q = omega arith in
      let same : j * hid f + 2 * q ≡ k * hid f + q = omega (arith, ap (λ m. m * hid f) next) in
      subst (λ b. IsNearestBits f n d (min b (ones f * hid f))) same
      (nearest_of_near f n d (2 * q) j some (omega arith) (λ _. omega arith) (λ _. omega (arith, close.1, units, ap (λ m. m * (d * 2 ^ j)) edge, mul-le-mul_right (d * 2 ^ j) one)) (omega (arith, close.1, units)) (omega (arith, close.0, units)))

  pub nearest_bits : IsNearestBits f n d (scaled_bits f q k)
  nearest_bits = elim (eq-zero-or-pos k) [
    | inl z ↦ at_zero z
    | inr p ↦ elim (eq-zero-or-pos (q - hid f)) [
      | inl z ↦ at_edge (k - 1) (omega arith) (omega (arith, significand.normal p))
      | inr more ↦ above (omega arith)
    ]
  ]

-- ---- numbers

-- the number lies nearest to so many units
pub enough : (x : Float) (r : Fraction) (scale : ℕ) → IsFractionOf x r → 10 ^ 17 ≤ units_of (num_of r) (den_of r) scale
    → same_float (nearest (format_of x) r.negative (units_of (num_of r) (den_of r) scale) (10 ^ scale)) x ≡ true
enough x r scale is many =
    let f = binary (format_of x) in
    let n = units_of (num_of r) (den_of r) scale in
    let low_is : n ≡ (2 * (r.significand * 2 ^ r.exponent * 10 ^ scale) + 2 ^ low f) / (2 * 2 ^ low f) = ap (λ l. (2 * (r.significand * 2 ^ r.exponent * 10 ^ scale) + 2 ^ l) / (2 * 2 ^ l)) is.lowest in
    let bits = nearest_bits f r.significand r.exponent n (10 ^ scale) is.significand (ten_to_pos scale) many low_is in
    let value = signed f (value_of x) r.negative _ n (10 ^ scale) is.signed bits.0 in
    (same_float-Decides (nearest (format_of x) r.negative n (10 ^ scale)) x).1 (ap (number_of (format_of x)) value ∙ number_is x ∙ is.same)
