-- The texts of floating-point numbers have no quotes, are ASCII, and are read as the numbers.
use Rattle.std.proofs.Common.{◌≡◌, ◌∙◌, ℕ, zero, suc, ◌+◌, ◌*◌, ◌/◌, ◌%◌, ◌^◌, ◌<◌, ◌≤◌, Bool, true, false, cond, List, [], ◌∷◌, length, get_or, Option, Some, None, refl, ap, sym, subst, arith}
use Rattle.std.specs.Prelude.{codes, nat_le, nat_lt, pos, ◌&&◌}
use Rattle.std.specs.Fmt.{sign_text}
use Rattle.std.specs.Int.{w32, w64, byte_at, bytes_high_first, to_be_bytes}
use Rattle.std.specs.List.{find, list_all, range_with_len}
use Rattle.std.specs.Option.{option_map, unwrap_or}
use Rattle.std.proofs.lemmas.Bool.{and_parts, leb-true, ltb-true}
use lib.Ieee.{Float as Value, nan, inf, fin, up, down}
use Rattle.hex.specs.Hex.{encode_lower, encode_with, lower_digits}
use Rattle.vx_dtype.specs.declared.float_type.FloatType.{FloatType}
use Rattle.vx_dtype.specs.Deciding.{same_float_type-Decides}
use Rattle.vx_dtype.specs.Types.{same_float_type}
use Rattle.vx_floats.specs.declared.float.Float.{Float}
use Rattle.vx_floats.specs.declared.float.Float.TheVariants.{F32, F64}
use Rattle.vx_floats.specs.Floats.{format_of, is_canonical, same_float}
use Rattle.vx_floats.specs.Texts.{bits_text, float_read, float_text, fraction_text, is_enough, nearest, scale_of, units_of, value_of, value_text}
use Rattle.vx_floats.proofs.FloatsAgain as floats
use Rattle.vx_source_types.proofs.WrittenTexts.{Plain, plain_behind, decimal_plain}

-- ---- what is written

tested : (bs : List ℕ) → list_all (λ b. nat_le 45 b && nat_lt b 128) bs ≡ true → Plain bs
tested [] h = tt
tested (b ∷ bs) h =
    let parts = and_parts (nat_le 45 b && nat_lt b 128) (list_all (λ b. nat_le 45 b && nat_lt b 128) bs) h in
    let both = and_parts (nat_le 45 b) (nat_lt b 128) parts.0 in
    (leb-true 45 b both.0, ltb-true b 128 both.1, tested bs parts.1)

sign_plain : (s : Bool) → Plain (sign_text s)
sign_plain true = tested (codes "-") refl
sign_plain false = tt

-- ---- decimals

-- what is found passes the test
passes : (p : ℕ → Bool) (a n k : ℕ) → find p (range_with_len a n) ≡ Some k → p k ≡ true
passes p a zero k e = cc
passes p a (suc n) k e = go (passes p (a + 1) n k) (p a) refl e
  where
    go : (find p (range_with_len (a + 1) n) ≡ Some k → p k ≡ true) → (b : Bool) → p a ≡ b → cond b (Some a) (find p (range_with_len (a + 1) n)) ≡ Some k → p k ≡ true
    go later true here e = let same : a ≡ k = cc in ap p (sym same) ∙ here
    go later false here e = later e

-- a number has at most 38 digits
few_units : (x : Float) (s : Bool) (num den k : ℕ) → scale_of x s num den ≡ Some k → units_of num den k < 10 ^ 38
unfolding scale_of is_enough
few_units x s num den k e =
    let n = units_of num den k in
    ltb-true n (10 ^ 38) (and_parts (nat_lt n (10 ^ 38)) (same_float (nearest (format_of x) s n (10 ^ k)) x) (passes (is_enough x s num den) 1 22 k e)).0

-- ---- bits

digit_of : (bs : List ℕ) (i : ℕ) → Plain bs → i < length bs → (45 ≤ get_or bs i 0) × (get_or bs i 0 < 128)
digit_of [] i h l = absurd (omega arith)
digit_of (b ∷ bs) zero h l = (h.0, h.1)
digit_of (b ∷ bs) (suc i) h l = digit_of bs i h.2 (omega arith)

digit_plain : (i : ℕ) → i < 16 → (45 ≤ get_or lower_digits i 0) × (get_or lower_digits i 0 < 128)
digit_plain i h = digit_of lower_digits i (tested lower_digits refl) h

digits_plain : (k n : ℕ) → Plain (encode_lower (bytes_high_first k n))
unfolding encode_with
digits_plain zero n = tt
digits_plain (suc k) n =
    let b = byte_at k n in
    let high = digit_plain (b / 16) (small k) in
    let low = digit_plain (b % 16) (omega arith) in
    (high.0, high.1, (low.0, low.1, digits_plain k n))
  where
    small : (k : ℕ) → byte_at k n / 16 < 16
    small zero = omega arith
    small (suc k) = omega arith

bits_plain : (x : Float) → Plain (bits_text x)
bits_plain (F32 b) = plain_behind (codes "0x") (encode_lower (to_be_bytes w32 b)) (tested (codes "0x") refl) (digits_plain 4 b)
bits_plain (F64 b) = plain_behind (codes "0x") (encode_lower (to_be_bytes w64 b)) (tested (codes "0x") refl) (digits_plain 8 b)

-- ---- numbers

value_plain : (x : Float) (v : Value) → Plain (unwrap_or (value_text x v) (bits_text x))
value_plain x nan = tested (codes "nan") refl
value_plain x (inf s) = plain_behind (sign_text s) (codes "inf") (sign_plain s) (tested (codes "inf") refl)
value_plain x (fin s m e) = go (scale_of x s (m * up e) (down e)) refl
  where
    go : (o : Option ℕ) → scale_of x s (m * up e) (down e) ≡ o → Plain (unwrap_or (option_map (fraction_text s (m * up e) (down e)) o) (bits_text x))
    go None scale = bits_plain x
    go (Some k) scale = plain_behind (sign_text s) _ (sign_plain s) (decimal_plain (pos (units_of (m * up e) (down e) k)) k (few_units x s (m * up e) (down e) k scale))

pub float_plain : (x : Float) → Plain (float_text x)
unfolding float_text
float_plain x = value_plain x (value_of x)

-- ---- what is read

-- a number of the format is read of its text
pub float_again : (x : Float) (f : FloatType) → (same_float_type (format_of x) f && is_canonical x) ≡ true → float_read f (float_text x) ≡ Some x
float_again x f h =
    let parts = and_parts (same_float_type (format_of x) f) (is_canonical x) h in
    subst (λ g. float_read g (float_text x) ≡ Some x) ((same_float_type-Decides (format_of x) f).0 parts.0) (floats.float_again x parts.1)
