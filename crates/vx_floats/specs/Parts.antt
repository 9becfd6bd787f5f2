-- The parts of a floating-point number.
use Rattle.std.specs.Prelude.{◌≡◌, ℕ, ◌+◌, ◌*◌, ◌^◌, Bool, if◌then◌else◌}
use Rattle.std.specs.Float.{binary32, binary64}
use Rattle.std.specs.Float.Ieee.{hid, low, ones, top, nan, inf}
use lib.Ieee.Exact.{HasValue}
use Rattle.fast_float.specs.Rounding.{scaled_bits, IsSignificand}
use Rattle.ryu.specs.Sign.{IsSignAndSize}
use Rattle.vx_dtype.specs.declared.float_type.FloatType.{FloatType}
use Rattle.vx_floats.specs.declared.float.Float.{Float}
use Rattle.vx_floats.specs.declared.float.Float.TheVariants.{F32, F64}
use Rattle.vx_floats.specs.declared.parts.Fraction.{Fraction}
use Rattle.vx_floats.specs.declared.parts.Parts.{Parts}
use Rattle.vx_floats.specs.declared.parts.Pattern.{Pattern}
use Rattle.vx_floats.specs.declared.parts.Parts.TheVariants.{Nan, Infinite, Finite}
use Rattle.vx_floats.specs.Floats.{canonical, format_of}
use Rattle.vx_floats.specs.Texts.{binary, bits_of, value_of}

-- the bits of a number, and what they count in its format
abbrev pub pattern_of : Float → Pattern
pattern_of x =
    let f = binary (format_of x) in
    record { bits = bits_of x; sign = top f; hidden = hid f; ones = ones f; lowest = low f }

-- the number with that sign whose other bits are these
abbrev pub with_sign : FloatType → Bool → ℕ → Float
with_sign FloatType.F32 negative size = F32 ((if negative then top binary32 else 0) + size)
with_sign FloatType.F64 negative size = F64 ((if negative then top binary64 else 0) + size)

-- the size of a number, which is num / den
abbrev pub num_of : Fraction → ℕ
num_of r = r.significand * 2 ^ r.exponent

abbrev pub den_of : Fraction → ℕ
den_of r = 2 ^ r.lowest

-- the fraction is the number's sign and size
pub record IsFractionOf (x : Float) (r : Fraction) : Type 0 where
  pub value : HasValue (value_of x) r.negative (num_of r) (den_of r)
  pub signed : IsSignAndSize (binary (format_of x)) (value_of x) r.negative (scaled_bits (binary (format_of x)) r.significand r.exponent)
  pub significand : IsSignificand (binary (format_of x)) r.significand r.exponent
  pub lowest : r.lowest ≡ low (binary (format_of x))
  pub same : canonical x ≡ x

-- the number has those parts
abbrev pub HasParts : Float → Parts → Type 0
HasParts x Nan = value_of x ≡ nan
HasParts x (Infinite negative) = value_of x ≡ inf negative
HasParts x (Finite r) = IsFractionOf x r
