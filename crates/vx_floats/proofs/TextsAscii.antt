-- The text of a number is never empty, and it is ASCII.
use Rattle.std.proofs.Common.{◌≡◌, ℕ, ◌*◌, ◌<◌, Bool, true, false, List, [], ◌∷◌, ◌++◌, length, length-append, Option, Some, None, refl, arith, lit<}
use Rattle.std.specs.Prelude.{codes, nat_lt, IsAscii}
use Rattle.std.specs.Int.{w32, w64, to_be_bytes}
use Rattle.std.specs.Fmt.{sign_text}
use Rattle.std.specs.List.{list_all}
use Rattle.std.specs.Option.{option_map, unwrap_or}
use Rattle.std.proofs.lemmas.Bool.{and_parts, ltb-true}
use Rattle.std.proofs.lemmas.Str.Ascii.{IsAscii-cons, IsAscii-nil}
use lib.Ieee.{Float as Value, nan, inf, fin, up, down}
use Rattle.hex.specs.Hex.{encode_lower, lower_digits}
use Rattle.hex.proofs.HexLemmas.{IsAscii-encode_with}
use Rattle.vx_floats.specs.declared.float.Float.{Float}
use Rattle.vx_floats.specs.declared.float.Float.TheVariants.{F32, F64}
use Rattle.vx_floats.specs.Texts.{bits_text, float_text, fraction_text, scale_of, units_of, value_of, value_text}
use Rattle.vx_floats.proofs.DecimalTexts.{AreLow, low_text, some_text}
use Rattle.vx_floats.proofs.Scales.{scale_is}

-- a text that is not empty, and ASCII
record IsSomeAscii (bs : List ℕ) : Type 0 where
  some : 0 < length bs
  ascii : IsAscii bs

low_ascii : (bs : List ℕ) → AreLow bs → IsAscii bs
low_ascii [] h = IsAscii-nil
low_ascii (b ∷ bs) h = IsAscii-cons b bs (omega arith) (low_ascii bs h.1)

tested : (bs : List ℕ) → list_all (λ b. nat_lt b 128) bs ≡ true → IsAscii bs
tested [] h = IsAscii-nil
tested (b ∷ bs) h = let both = and_parts (nat_lt b 128) (list_all (λ b. nat_lt b 128) bs) h in IsAscii-cons b bs (ltb-true b 128 both.0) (tested bs both.1)

inf_ascii : (s : Bool) → IsSomeAscii (sign_text s ++ codes "inf")
inf_ascii true = record { some = lit< tt; ascii = tested (codes "-inf") refl }
inf_ascii false = record { some = lit< tt; ascii = tested (codes "inf") refl }

hex_ascii : (octets : List ℕ) → IsSomeAscii (codes "0x" ++ encode_lower octets)
hex_ascii octets = record { some = omega (arith, length-append (codes "0x") (encode_lower octets)); ascii = IsAscii-cons 48 (120 ∷ encode_lower octets) (omega arith) (IsAscii-cons 120 (encode_lower octets) (omega arith) (IsAscii-encode_with lower_digits octets (tested lower_digits refl))) }

bits_ascii : (x : Float) → IsSomeAscii (bits_text x)
bits_ascii (F32 b) = hex_ascii (to_be_bytes w32 b)
bits_ascii (F64 b) = hex_ascii (to_be_bytes w64 b)

value_ascii : (x : Float) (v : Value) → IsSomeAscii (unwrap_or (value_text x v) (bits_text x))
value_ascii x nan = record { some = lit< tt; ascii = tested (codes "nan") refl }
value_ascii x (inf s) = inf_ascii s
value_ascii x (fin s m e) = go (scale_of x s (m * up e) (down e)) refl
  where
    go : (o : Option ℕ) → scale_of x s (m * up e) (down e) ≡ o → IsSomeAscii (unwrap_or (option_map (fraction_text s (m * up e) (down e)) o) (bits_text x))
    go None scale = bits_ascii x
    go (Some k) scale =
        let is = scale_is x s (m * up e) (down e) k scale in
        let n = units_of (m * up e) (down e) k in
        record { some = some_text s n k is.few is.some; ascii = low_ascii _ (low_text s n k is.few is.some) }

pub float_text-some : (x : Float) → 0 < length (float_text x)
unfolding float_text
float_text-some x = (value_ascii x (value_of x)).some

pub float_text-ascii : (x : Float) → IsAscii (float_text x)
unfolding float_text
float_text-ascii x = (value_ascii x (value_of x)).ascii
