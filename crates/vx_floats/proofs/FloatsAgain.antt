-- The text of a canonical number is read as that number.
use Rattle.std.proofs.Common.{◌≡◌, ℕ, zero, suc, ◌*◌, ◌^◌, ◌<◌, Bool, true, false, ◌&&◌, T, cond, List, ◌++◌, drop, Option, Some, None, ℤ, refl, sym, ap, subst, ◌∙◌, arith}
use Rattle.std.specs.Prelude.{IsTrue, codes, nat_eq}
use Rattle.std.specs.Char.{is_ascii_digit}
use Rattle.std.specs.Float.{float_is_infinite}
use Rattle.std.specs.Float.Numeral.{scan_numeral}
use Rattle.std.specs.Float.Parse.{parse_float, read_float}
use Rattle.std.specs.Fmt.{sign_text}
use Rattle.std.specs.Int.{w32, w64, byte_at, bytes_high_first, from_be_bytes, to_be_bytes}
use Rattle.std.specs.List.{list_any, starts_with}
use Rattle.std.specs.Option.{option_and_then, option_map, unwrap_or}
use Rattle.std.specs.Result.{result_ok}
use Rattle.std.proofs.lemmas.Bool.{cond-false}
use Rattle.std.proofs.lemmas.Nat.{from_be_bytes-to_be_bytes_4, from_be_bytes-to_be_bytes_8}
use lib.Ieee.{Float as Value, Format, binary32, binary64, nan, inf, fin, up, down, round, top, fits, to_bits, of_bits as from_bits}
use lib.Ieee.Bits.{of_bits-fits, of_bits-to_bits, to_bits-lt}
use lib.Ieee.Fits.{round-fits}
use Rattle.hex.specs.Hex.{IsBytes}
use Rattle.hex.proofs.HexLemmas.{decode_sized-encode_lower}
use Rattle.vx_dtype.specs.declared.float_type.FloatType.{FloatType}
use Rattle.vx_floats.specs.declared.float.Float.{Float}
use Rattle.vx_floats.specs.declared.float.Float.TheVariants.{F32, F64}
use Rattle.vx_floats.specs.Deciding.{same_float-Decides}
use Rattle.vx_floats.specs.Floats.{canonical, format_of, is_canonical}
use Rattle.vx_floats.specs.Texts.{binary, bits_read, bits_text, float_read, float_text, fraction_text, is_too_large, number_of, scale_of, units_of, value_of, value_read, value_text}
use Rattle.vx_floats.proofs.Fields.{number_is}
use Rattle.vx_floats.proofs.Scales.{scale_is}
use Rattle.vx_floats.proofs.DecimalTexts.{decimal_read_as, low_text, no_mark}

-- ---- words

nan_read : (f : Format) → parse_float f (codes "nan") ≡ Some nan
unfolding read_float scan_numeral
nan_read f = refl

inf_read : (f : Format) (s : Bool) → parse_float f (sign_text s ++ codes "inf") ≡ Some (inf s)
unfolding read_float scan_numeral
inf_read f true = refl
inf_read f false = refl

-- a value that is read and isn't too large
value_again : (t : FloatType) (bs : List ℕ) (v : Value) → starts_with nat_eq bs (codes "0x") ≡ false → parse_float (binary t) bs ≡ Some v → is_too_large bs v ≡ false → float_read t bs ≡ Some (number_of t v)
unfolding float_read
value_again t bs v mark read small =
    cond-false _ (bits_read t (drop 2 bs)) (value_read t bs) mark
    ∙ ap (option_and_then (λ v. cond (is_too_large bs v) None (Some (number_of t v)))) read
    ∙ cond-false _ None (Some (number_of t v)) small

nan_again : (t : FloatType) → float_read t (codes "nan") ≡ Some (number_of t nan)
unfolding float_is_infinite
nan_again t = value_again t (codes "nan") nan refl (nan_read (binary t)) refl

inf_again : (t : FloatType) (s : Bool) → float_read t (sign_text s ++ codes "inf") ≡ Some (number_of t (inf s))
unfolding float_is_infinite
inf_again t true = value_again t (sign_text true ++ codes "inf") (inf true) refl (inf_read (binary t) true) refl
inf_again t false = value_again t (sign_text false ++ codes "inf") (inf false) refl (inf_read (binary t) false) refl

-- ---- decimals

-- numbers of one format have one value
same_value : (t : FloatType) (v w : Value) → T (fits (binary t) v) → T (fits (binary t) w) → number_of t v ≡ number_of t w → v ≡ w
same_value FloatType.F32 v w p q e = let bits : to_bits binary32 v ≡ to_bits binary32 w = cc in sym (of_bits-to_bits binary32 v p) ∙ ap (from_bits binary32) bits ∙ of_bits-to_bits binary32 w q
same_value FloatType.F64 v w p q e = let bits : to_bits binary64 v ≡ to_bits binary64 w = cc in sym (of_bits-to_bits binary64 v p) ∙ ap (from_bits binary64) bits ∙ of_bits-to_bits binary64 w q

value_fits : (x : Float) → T (fits (binary (format_of x)) (value_of x))
value_fits (F32 b) = of_bits-fits binary32 b
value_fits (F64 b) = of_bits-fits binary64 b

finite : (s : Bool) (m : ℕ) (e : ℤ) → float_is_infinite (fin s m e) ≡ false
unfolding float_is_infinite
finite s m e = refl

decimal_again : (x : Float) (s : Bool) (m : ℕ) (e : ℤ) (num den k : ℕ) → value_of x ≡ fin s m e → number_of (format_of x) (value_of x) ≡ x → scale_of x s num den ≡ Some k
    → float_read (format_of x) (fraction_text s num den k) ≡ Some x
decimal_again x s m e num den k value same scale =
    let t = format_of x in
    let n = units_of num den k in
    let is = scale_is x s num den k scale in
    let v = round (binary t) s n (10 ^ k) in
    let v_is : v ≡ fin s m e = same_value t v (value_of x) (round-fits (binary t) s n (10 ^ k)) (value_fits x) (is.nearest ∙ sym same) ∙ value in
    let small : is_too_large (fraction_text s num den k) v ≡ false = ap (λ b. b && list_any is_ascii_digit (fraction_text s num den k)) (ap float_is_infinite v_is ∙ finite s m e) in
    value_again t (fraction_text s num den k) v (no_mark (fraction_text s num den k) (low_text s n k is.few is.some)) (decimal_read_as (binary t) s n k is.few is.some) small ∙ ap Some is.nearest

-- ---- bits

bytes : (k n : ℕ) → IsBytes (bytes_high_first k n)
bytes zero n i = omega arith
bytes (suc k) n zero = byte k
  where
    byte : (k : ℕ) → byte_at k n < 256
    byte zero = omega arith
    byte (suc k) = omega arith
bytes (suc k) n (suc i) = bytes k n i

canonical_bits : (f : Format) (b : ℕ) → to_bits f (from_bits f b) ≡ b → b < 2 * top f
canonical_bits f b e = subst (λ n. n < 2 * top f) e (to_bits-lt f (from_bits f b) (of_bits-fits f b))

bits_again : (x : Float) → canonical x ≡ x → float_read (format_of x) (bits_text x) ≡ Some x
unfolding float_read
bits_again (F32 b) same =
    let bits : to_bits binary32 (from_bits binary32 b) ≡ b = cc in
    ap (λ r. option_map (λ octets. canonical (F32 (from_be_bytes w32 octets))) (result_ok r)) (decode_sized-encode_lower (to_be_bytes w32 b) 4 refl (bytes 4 b))
    ∙ ap (λ n. Some (canonical (F32 n))) (from_be_bytes-to_be_bytes_4 b (canonical_bits binary32 b bits)) ∙ ap Some same
bits_again (F64 b) same =
    let bits : to_bits binary64 (from_bits binary64 b) ≡ b = cc in
    ap (λ r. option_map (λ octets. canonical (F64 (from_be_bytes w64 octets))) (result_ok r)) (decode_sized-encode_lower (to_be_bytes w64 b) 8 refl (bytes 8 b))
    ∙ ap (λ n. Some (canonical (F64 n))) (from_be_bytes-to_be_bytes_8 b (canonical_bits binary64 b bits)) ∙ ap Some same

-- ---- all of them

again : (x : Float) (v : Value) → value_of x ≡ v → canonical x ≡ x → float_read (format_of x) (unwrap_or (value_text x v) (bits_text x)) ≡ Some x
again x nan value same = nan_again (format_of x) ∙ ap Some (ap (number_of (format_of x)) (sym value) ∙ number_is x ∙ same)
again x (inf s) value same = inf_again (format_of x) s ∙ ap Some (ap (number_of (format_of x)) (sym value) ∙ number_is x ∙ same)
again x (fin s m e) value same = go (scale_of x s (m * up e) (down e)) refl
  where
    go : (o : Option ℕ) → scale_of x s (m * up e) (down e) ≡ o → float_read (format_of x) (unwrap_or (option_map (fraction_text s (m * up e) (down e)) o) (bits_text x)) ≡ Some x
    go None scale = bits_again x same
    go (Some k) scale = decimal_again x s m e (m * up e) (down e) k value (number_is x ∙ same) scale

-- the text of a canonical number is read as that number
pub float_again : (x : Float) → IsTrue (is_canonical x) → float_read (format_of x) (float_text x) ≡ Some x
unfolding float_text
float_again x h = again x (value_of x) refl ((same_float-Decides (canonical x) x).0 h)
