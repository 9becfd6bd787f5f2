-- Texts of floating-point numbers, written and read.
use Rattle.std.specs.Prelude.{ℕ, ◌*◌, ◌^◌, ◌&&◌, ◌++◌, Bool, List, drop, pos, Option, Some, None, nat_eq, nat_lt, codes, from_bits, to_bits, if◌then◌else◌}
use Rattle.std.specs.Char.{is_ascii_digit}
use Rattle.std.specs.Float.{binary32, binary64, float_is_infinite, ratio_round_half_up}
use Rattle.std.specs.Float.Ieee.{Float as Value, Format, nan, inf, fin, up, down, round}
use Rattle.std.specs.Float.Parse.{parse_float}
use Rattle.std.specs.Fmt.{sign_text}
use Rattle.std.specs.Int.{w32, w64, from_be_bytes, to_be_bytes}
use Rattle.std.specs.List.{find, list_any, range_with_len, starts_with}
use Rattle.std.specs.Option.{is_some, option_and_then, option_map, unwrap_or}
use Rattle.std.specs.Result.{result_ok}
use Rattle.hex.specs.Hex.{decode_sized, encode_lower}
use Rattle.vx_dtype.specs.declared.float_type.FloatType.{FloatType}
use Rattle.vx_literals.specs.Decimals.{decimal_text}
use Rattle.vx_floats.specs.declared.float.Float.{Float}
use Rattle.vx_floats.specs.declared.float.Float.TheVariants.{F32, F64}
use Rattle.vx_floats.specs.Floats.{canonical, format_of, same_float}

-- ---- values

-- the format, by IEEE 754's name
abbrev pub binary : FloatType → Format
binary FloatType.F32 = binary32
binary FloatType.F64 = binary64

-- the bits
abbrev pub bits_of : Float → ℕ
bits_of (F32 b) = b
bits_of (F64 b) = b

-- the value that the bits stand for
abbrev pub value_of : Float → Value
value_of (F32 b) = from_bits binary32 b
value_of (F64 b) = from_bits binary64 b

-- the number of that value
abbrev pub number_of : FloatType → Value → Float
number_of FloatType.F32 v = F32 (to_bits binary32 v)
number_of FloatType.F64 v = F64 (to_bits binary64 v)

-- the number that lies nearest to num / den, or to -(num / den), an even one at a tie
abbrev pub nearest : FloatType → Bool → ℕ → ℕ → Float
nearest t negative num den = number_of t (round (binary t) negative num den)

-- ---- written

-- the whole number of units that lies nearest to num / den, 10 to the scale of which are one; a half goes up
abbrev pub units_of : ℕ → ℕ → ℕ → ℕ
units_of num den scale = ratio_round_half_up (num * 10 ^ scale) den

-- whether so many digits behind the point are enough for x, which is num / den with that sign: there are at most 38 in all, and x lies nearest to them
unfoldable pub is_enough : Float → Bool → ℕ → ℕ → ℕ → Bool
is_enough x negative num den scale =
    nat_lt (units_of num den scale) (10 ^ 38) && same_float (nearest (format_of x) negative (units_of num den scale) (10 ^ scale)) x

-- how few digits behind the point are enough, from 1 to 22
unfoldable pub scale_of : Float → Bool → ℕ → ℕ → Option ℕ
scale_of x negative num den = find (is_enough x negative num den) (range_with_len 1 22)

-- the decimal with so many digits behind the point
abbrev pub fraction_text : Bool → ℕ → ℕ → ℕ → List ℕ
fraction_text negative num den scale = sign_text negative ++ decimal_text (pos (units_of num den scale)) scale

-- the text of x by its value, if it has one
abbrev pub value_text : Float → Value → Option (List ℕ)
value_text x nan = Some (codes "nan")
value_text x (inf negative) = Some (sign_text negative ++ codes "inf")
value_text x (fin negative m e) = option_map (fraction_text negative (m * up e) (down e)) (scale_of x negative (m * up e) (down e))

-- the bits in hexadecimal digits
abbrev pub bits_text : Float → List ℕ
bits_text (F32 b) = codes "0x" ++ encode_lower (to_be_bytes w32 b)
bits_text (F64 b) = codes "0x" ++ encode_lower (to_be_bytes w64 b)

-- `nan`, `inf`, `-inf`, or the decimal with the fewest digits behind the point that is read as the number; the bits where no decimal is
unfoldable pub float_text : Float → List ℕ
float_text x = unwrap_or (value_text x (value_of x)) (bits_text x)

-- whether the number is written by its value, and not by its bits
abbrev pub has_value_text : Float → Bool
has_value_text x = is_some (value_text x (value_of x))

-- ---- read

-- the number whose bits are the hexadecimal digits, two for each byte
abbrev pub bits_read : FloatType → List ℕ → Option Float
bits_read FloatType.F32 bs = option_map (λ octets. canonical (F32 (from_be_bytes w32 octets))) (result_ok (decode_sized bs 4))
bits_read FloatType.F64 bs = option_map (λ octets. canonical (F64 (from_be_bytes w64 octets))) (result_ok (decode_sized bs 8))

-- whether the text writes a number in digits that is too large for the format, which makes it an infinity
abbrev pub is_too_large : List ℕ → Value → Bool
is_too_large bs v = float_is_infinite v && list_any is_ascii_digit bs

-- the number that lies nearest to what the text writes
abbrev pub value_read : FloatType → List ℕ → Option Float
value_read t bs = option_and_then (λ v. if is_too_large bs v then None else Some (number_of t v)) (parse_float (binary t) bs)

-- the number that a text stands for, if it is one
unfoldable pub float_read : FloatType → List ℕ → Option Float
float_read t bs = if starts_with nat_eq bs (codes "0x") then bits_read t (drop 2 bs) else value_read t bs
