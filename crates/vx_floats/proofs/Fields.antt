-- The parts of a number, by the fields of its bits.
use Rattle.std.proofs.Common.{◌≡◌, ℕ, suc, ◌+◌, ◌-◌, ◌*◌, ◌/◌, ◌%◌, ◌^◌, ◌<◌, Bool, not, T, leb, refl, sym, ap, subst, ◌∙◌, arith, mod-lt, pow_pos}
use Rattle.std.proofs.lemmas.Bool.{cond-false, ne_eqb}
use lib.Ieee.{Float as Value, Format, binary32, binary64, nan, inf, fin, prec, low, hid, ones, top, odd, is_nan, of_bits, of_fields}
use lib.Ieee.Bits.{to_bits-of_bits}
use lib.Ieee.Exact.{HasValue, odd_sign}
use Rattle.fast_float.specs.Rounding.{scaled_bits, IsSignificand}
use Rattle.fast_float.proofs.Patterns.{shape}
use Rattle.ryu.specs.Sign.{IsSignAndSize}
use Rattle.ryu.proofs.Signs.{parts}
use Rattle.vx_floats.specs.declared.float.Float.{Float}
use Rattle.vx_floats.specs.declared.float.Float.TheVariants.{F32, F64}
use Rattle.vx_floats.specs.Floats.{canonical, format_of}
use Rattle.vx_floats.specs.Parts.{IsFractionOf}
use Rattle.vx_floats.specs.Texts.{binary, bits_of, number_of, value_of}

pub value_is : (x : Float) → value_of x ≡ of_bits (binary (format_of x)) (bits_of x)
value_is (F32 b) = refl
value_is (F64 b) = refl

pub number_is : (x : Float) → number_of (format_of x) (value_of x) ≡ canonical x
number_is (F32 b) = refl
number_is (F64 b) = refl

-- ---- the value of each kind of pattern

last_field : (f : Format) (s : Bool) → of_fields f s (ones f) 0 ≡ inf s
unfolding of_fields
last_field binary32 s = refl
last_field binary64 s = refl

past_last : (f : Format) (s : Bool) (t : ℕ) → (t ≡ 0 → ⊥) → of_fields f s (ones f) t ≡ nan
unfolding of_fields
past_last binary32 s t some = cond-false _ (inf s) nan (ne_eqb t 0 some)
past_last binary64 s t some = cond-false _ (inf s) nan (ne_eqb t 0 some)

below_last : (f : Format) (s : Bool) (x t : ℕ) → (suc x ≡ ones f → ⊥) → of_fields f s (suc x) t ≡ odd (prec f) s (hid f + t) x (low f)
unfolding of_fields
below_last f s x t other = cond-false _ _ (odd (prec f) s (hid f + t) x (low f)) (ne_eqb (suc x) (ones f) other)

module _ (f : Format) (b : ℕ) where
  abbrev field : ℕ
  field = b % top f / hid f

  abbrev digits : ℕ
  digits = b % hid f

  pub infinite : field ≡ ones f → digits ≡ 0 → of_bits f b ≡ inf (leb (top f) b)
  unfolding of_bits
  infinite e d = (λ i. of_fields f (leb (top f) b) (e i) (d i)) ∙ last_field f (leb (top f) b)

  pub no_number : field ≡ ones f → (digits ≡ 0 → ⊥) → of_bits f b ≡ nan
  unfolding of_bits
  no_number e some = ap (λ x. of_fields f (leb (top f) b) x digits) e ∙ past_last f (leb (top f) b) digits some

  pub small : field ≡ 0 → of_bits f b ≡ odd (prec f) (leb (top f) b) digits 0 (low f)
  unfolding of_bits of_fields
  small e = ap (λ x. of_fields f (leb (top f) b) x digits) e

  pub normal : (field ≡ 0 → ⊥) → (field ≡ ones f → ⊥) → of_bits f b ≡ odd (prec f) (leb (top f) b) (hid f + digits) (field - 1) (low f)
  unfolding of_bits
  normal some other =
      let next : field ≡ suc (field - 1) = omega arith in
      ap (λ x. of_fields f (leb (top f) b) x digits) next ∙ below_last f (leb (top f) b) (field - 1) digits (λ e. other (next ∙ e))

-- ---- the bits of a size

small_bits : (f : Format) (b : ℕ) → b % top f / hid f ≡ 0 → scaled_bits f (b % hid f) 0 ≡ b % top f
small_bits binary32 b e = omega arith
small_bits binary64 b e = omega arith

normal_bits : (f : Format) (b : ℕ) → (b % top f / hid f ≡ 0 → ⊥) → (b % top f / hid f ≡ ones f → ⊥) → scaled_bits f (hid f + b % hid f) (b % top f / hid f - 1) ≡ b % top f
normal_bits binary32 b some other = omega arith
normal_bits binary64 b some other = omega arith

-- ---- the fraction

is_number : (v : Value) (s : Bool) (a c : ℕ) → HasValue v s a c → T (not (is_nan v))
unfolding is_nan
is_number nan s a c h = absurd h
is_number (inf t) s a c h = tt
is_number (fin t m e) s a c h = tt

same_number : (x : Float) → bits_of x < 2 * top (binary (format_of x)) → T (not (is_nan (value_of x))) → canonical x ≡ x
same_number (F32 b) bound number = ap F32 (to_bits-of_bits binary32 b bound number)
same_number (F64 b) bound number = ap F64 (to_bits-of_bits binary64 b bound number)

module _ (x : Float) (bound : bits_of x < 2 * top (binary (format_of x))) where
  abbrev f : Format
  f = binary (format_of x)

  fraction : (q k : ℕ) → of_bits f (bits_of x) ≡ odd (prec f) (leb (top f) (bits_of x)) q k (low f) → scaled_bits f q k ≡ bits_of x % top f → IsSignificand f q k
      → IsFractionOf x (record { negative = leb (top f) (bits_of x); significand = q; exponent = k; lowest = low f })
  fraction q k value size significand =
      let negative = leb (top f) (bits_of x) in
      let has = subst (λ v. HasValue v negative (q * 2 ^ k) (2 ^ low f)) (sym (value_is x ∙ value)) (odd_sign (prec f) negative q k (low f)) in
      let number = is_number (value_of x) negative _ _ has in
      record {
        value = has;
        signed = subst (IsSignAndSize f (value_of x) negative) (sym size) (parts f (value_of x) (bits_of x) (sym (value_is x)) bound number);
        significand = significand;
        lowest = refl;
        same = same_number x bound number;
      }

  pub small_fraction : bits_of x % top f / hid f ≡ 0 → IsFractionOf x (record { negative = leb (top f) (bits_of x); significand = bits_of x % hid f; exponent = 0; lowest = low f })
  small_fraction e =
      let twice = (shape f).twice in
      let few = mod-lt (bits_of x) (pow_pos (prec f - 1)) in
      fraction (bits_of x % hid f) 0 (small f (bits_of x) e) (small_bits f (bits_of x) e) (record { fits = omega arith; normal = λ more. absurd (omega arith) })

  pub normal_fraction : (bits_of x % top f / hid f ≡ 0 → ⊥) → (bits_of x % top f / hid f ≡ ones f → ⊥)
      → IsFractionOf x (record { negative = leb (top f) (bits_of x); significand = hid f + bits_of x % hid f; exponent = bits_of x % top f / hid f - 1; lowest = low f })
  normal_fraction some other =
      let twice = (shape f).twice in
      let few = mod-lt (bits_of x) (pow_pos (prec f - 1)) in
      fraction (hid f + bits_of x % hid f) (bits_of x % top f / hid f - 1) (normal f (bits_of x) some other) (normal_bits f (bits_of x) some other) (record { fits = omega arith; normal = λ _. omega arith })
