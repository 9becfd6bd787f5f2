-- The text of a floating-point number that has a point is a number of JSON.
use Rattle.std.proofs.Common.{◌≡◌, ℕ, zero, suc, ◌+◌, ◌*◌, ◌/◌, ◌%◌, ◌^◌, ◌<◌, Bool, true, false, cond, ◌==◌, List, [], ◌∷◌, ◌++◌, pos, Option, Some, None, refl, arith}
use Rattle.std.specs.Prelude.{get_or, nat_lt}
use Rattle.std.specs.Float.Ieee.{Float as Value, nan, inf, fin, up, down}
use Rattle.std.specs.Fmt.{sign_text}
use Rattle.std.specs.Int.{w32, w64, to_be_bytes}
use Rattle.std.specs.List.{find, list_any, range_with_len}
use Rattle.std.specs.Option.{option_map, unwrap_or}
use Rattle.std.proofs.lemmas.Bool.{and_parts, ltb-true, or_from, or_parts}
use Rattle.hex.specs.Hex.{encode_lower, encode_with, lower_digits}
use Rattle.json.specs.Print.{IsNumber}
use Rattle.json.specs.Word.{after_number}
use Rattle.vx_floats.specs.declared.float.Float.{Float}
use Rattle.vx_floats.specs.declared.float.Float.TheVariants.{F32, F64}
use Rattle.vx_floats.specs.Floats.{format_of, same_float}
use Rattle.vx_floats.specs.Texts.{bits_text, float_text, fraction_text, is_enough, nearest, scale_of, units_of, value_of, value_text}
use Rattle.vx_literals.specs.Decimals.{decimal_text}
use Rattle.vx_data.proofs.JsonNumbers.{decimal_is_number, unsigned_passed}

abbrev pub is_point : ℕ → Bool
is_point b = b == 46

-- ---- the bits in hexadecimal digits have no point

digit_no_point : (ds : List ℕ) (i : ℕ) → list_any is_point ds ≡ false → is_point (get_or ds i 0) ≡ false
digit_no_point [] i e = refl
digit_no_point (d ∷ ds) zero e = (or_parts _ _ e).0
digit_no_point (d ∷ ds) (suc i) e = digit_no_point ds i (or_parts _ _ e).1

digits_no_point : (bs : List ℕ) → list_any is_point (encode_lower bs) ≡ false
unfolding encode_with
digits_no_point [] = refl
digits_no_point (b ∷ bs) = or_from _ _ (digit_no_point lower_digits (b / 16) refl) (or_from _ _ (digit_no_point lower_digits (b % 16) refl) (digits_no_point bs))

bits_no_point : (x : Float) → list_any is_point (bits_text x) ≡ false
bits_no_point (F32 b) = digits_no_point (to_be_bytes w32 b)
bits_no_point (F64 b) = digits_no_point (to_be_bytes w64 b)

-- ---- decimals

signed_is_number : (negative : Bool) (n s : ℕ) → n < 10 ^ 64 → IsNumber (sign_text negative ++ decimal_text (pos n) s)
unfolding after_number
signed_is_number true n s h = (unsigned_passed n s h).0
signed_is_number false n s h = decimal_is_number (pos n) s h

found : (p : ℕ → Bool) (a n k : ℕ) → find p (range_with_len a n) ≡ Some k → p k ≡ true
found p a zero k e = cc
found p a (suc n) k e = go (found p (a + 1) n k) (p a) refl e
  where
    go : (find p (range_with_len (a + 1) n) ≡ Some k → p k ≡ true) → (b : Bool) → p a ≡ b → cond b (Some a) (find p (range_with_len (a + 1) n)) ≡ Some k → p k ≡ true
    go later true passes here = let same : a ≡ k = cc in cc
    go later false fails rest = later rest

few_units : (x : Float) (negative : Bool) (num den k : ℕ) → scale_of x negative num den ≡ Some k → units_of num den k < 10 ^ 38
unfolding scale_of is_enough
few_units x negative num den k e =
    let n = units_of num den k in
    let both = and_parts (nat_lt n (10 ^ 38)) (same_float (nearest (format_of x) negative n (10 ^ k)) x) (found (is_enough x negative num den) 1 22 k e) in
    ltb-true n (10 ^ 38) both.0

-- ---- all numbers

finite_is_number : (x : Float) (negative : Bool) (num den : ℕ) (o : Option ℕ) → scale_of x negative num den ≡ o →
    let t = unwrap_or (option_map (fraction_text negative num den) o) (bits_text x) in
    list_any is_point t ≡ true → IsNumber t
finite_is_number x negative num den None s e = let none = bits_no_point x in cc
finite_is_number x negative num den (Some k) s e = let few = few_units x negative num den k s in signed_is_number negative (units_of num den k) k (omega arith)

pub pointed_is_number : (x : Float) → list_any is_point (float_text x) ≡ true → IsNumber (float_text x)
unfolding float_text
pointed_is_number x e = go (value_of x) e
  where
    go : (v : Value) → let t = unwrap_or (value_text x v) (bits_text x) in list_any is_point t ≡ true → IsNumber t
    go nan e = cc
    go (inf true) e = cc
    go (inf false) e = cc
    go (fin negative m f) e = finite_is_number x negative (m * up f) (down f) (scale_of x negative (m * up f) (down f)) refl e
