-- Floating-point numbers by their bits: which are the same, which come first, what is computed of two, and the one NaN.
use Rattle.std.specs.Prelude.{ℕ, ◌+◌, ◌-◌, ◌==◌, ◌++◌, Bool, false, Option, Some, None, from_bits, to_bits, nat_lt, if◌then◌else◌}
use Rattle.std.specs.Float.{Format, binary32, binary64}
use Rattle.std.specs.Float as ieee
use Rattle.std.specs.Float.Ieee.{add, sub, mul, div, rem}
use Rattle.std.specs.Option.{option_map}
use Rattle.std.specs.Hash.{HashWrites}
use Rattle.std.specs.Hash as fed
use Rattle.std.specs.Ordering.{nat_cmp}
use Rattle.std.specs.declared.cmp.Ordering.{Ordering}
use Rattle.std.specs.declared.cmp.Ordering.TheVariants.{Less, Greater}
use Rattle.vx_dtype.specs.declared.float_type.FloatType.{FloatType}
use Rattle.vx_floats.specs.declared.arithmetic.Arithmetic.{Arithmetic}
use Rattle.vx_floats.specs.declared.arithmetic.Arithmetic.TheVariants.{Sum, Difference, Product, Quotient, Remainder}
use Rattle.vx_floats.specs.declared.float.Float.{Float}
use Rattle.vx_floats.specs.declared.float.Float.TheVariants.{F32, F64}

-- the format of the number
abbrev pub format_of : Float → FloatType
format_of (F32 b) = FloatType.F32
format_of (F64 b) = FloatType.F64

-- the number with each NaN as the quiet one
abbrev pub canonical : Float → Float
canonical (F32 b) = F32 (to_bits binary32 (from_bits binary32 b))
canonical (F64 b) = F64 (to_bits binary64 (from_bits binary64 b))

-- whether both are one number of one format: the same bits
abbrev pub same_float : Float → Float → Bool
same_float (F32 a) (F32 b) = a == b
same_float (F64 a) (F64 b) = a == b
same_float (F32 a) (F64 b) = false
same_float (F64 a) (F32 b) = false

-- whether the number is no NaN but the quiet one
abbrev pub is_canonical : Float → Bool
is_canonical x = same_float (canonical x) x

-- the place of bits in IEEE 754's total order, where the sign is the bit of that weight: a set sign turns all the others round
abbrev pub total_key : ℕ → ℕ → ℕ
total_key sign b = if nat_lt b sign then b + sign else sign + sign - 1 - b

-- IEEE 754's total order: -infinity, .., -0, +0, .., infinity, NaN; numbers of 32 bits stand before those of 64
abbrev pub float_order : Float → Float → Ordering
float_order (F32 a) (F32 b) = nat_cmp (total_key 0x8000_0000 a) (total_key 0x8000_0000 b)
float_order (F64 a) (F64 b) = nat_cmp (total_key 0x8000_0000_0000_0000 a) (total_key 0x8000_0000_0000_0000 b)
float_order (F32 a) (F64 b) = Less
float_order (F64 a) (F32 b) = Greater

-- the arithmetic on numbers of a format: IEEE 754's, to nearest and to even at a tie, and C's fmod, which is exact
abbrev pub ieee_result : Arithmetic → Format → ieee.Float → ieee.Float → Option ieee.Float
ieee_result Sum f x y = Some (add f x y)
ieee_result Difference f x y = Some (sub f x y)
ieee_result Product f x y = Some (mul f x y)
ieee_result Quotient f x y = Some (div f x y)
ieee_result Remainder f x y = Some (rem f x y)

-- the same on two numbers of one format, by their bits; each NaN is the quiet one
abbrev pub float_result : Arithmetic → Float → Float → Option Float
float_result a (F32 x) (F32 y) = option_map (λ z. F32 (to_bits binary32 z)) (ieee_result a binary32 (from_bits binary32 x) (from_bits binary32 y))
float_result a (F64 x) (F64 y) = option_map (λ z. F64 (to_bits binary64 z)) (ieee_result a binary64 (from_bits binary64 x) (from_bits binary64 y))
float_result a (F32 x) (F64 y) = None
float_result a (F64 x) (F32 y) = None

-- a number is hashed as its format and its bits
abbrev pub float_fed : Float → HashWrites
float_fed (F32 b) = fed.u8 0 ++ fed.u32 b
float_fed (F64 b) = fed.u8 1 ++ fed.u64 b
