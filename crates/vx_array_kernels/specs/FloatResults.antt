-- Arithmetic on floating-point numbers, by their bits.
use Rattle.std.specs.Prelude.{◌≡◌, ℕ, get_or, from_bits, to_bits, Option}
use Rattle.std.specs.Float.{Format, binary32, binary64}
use Rattle.std.specs.Float as ieee
use Rattle.std.specs.Option.{option_map, unwrap_or}
use Rattle.vx_dtype.specs.declared.float_type.FloatType.{FloatType}
use Rattle.vx_dtype.specs.declared.float_type.FloatType.TheVariants.{F32, F64}
use Rattle.vx_floats.specs.declared.float.Float.{Float}
use Rattle.vx_floats.specs.declared.float.Float.TheVariants as bits
use Rattle.vx_floats.specs.Floats.{ieee_result}
use Rattle.vx_array_loops.specs.WordBits.{each_row}
use Rattle.vx_array_loops.specs.declared.computation.Computation.{Computation}
use Rattle.vx_array_loops.specs.declared.computation.Computation.TheVariants.{Remainder}
use Rattle.vx_array.specs.declared.floats.Floats.{Floats}
use Rattle.vx_array.specs.Kinds.{bits_in, format_in}
use Rattle.vx_array_kernels.specs.Asked.{arithmetic_of}

-- what IEEE 754 computes of two numbers of a format with these bits, as bits; zero of a remainder, which isn't computed by bits
abbrev pub bits_result : Computation → Format → ℕ → ℕ → ℕ
bits_result Remainder f a b = 0
bits_result c f a b = unwrap_or (option_map (to_bits f) (ieee_result (arithmetic_of c) f (from_bits f a) (from_bits f b))) 0

-- the binary format
abbrev pub binary : FloatType → Format
binary F32 = binary32
binary F64 = binary64

-- the floating-point number of the format with just these bits
abbrev pub raw_float : FloatType → ℕ → Float
raw_float F32 b = bits.F32 b
raw_float F64 b = bits.F64 b

-- the first n results of numbers of the format with the bits that g and h give
abbrev pub AreResults : Computation → FloatType → ℕ → (ℕ → ℕ) → (ℕ → ℕ) → Floats → Type 0
AreResults c f n g h zs = (format_in zs ≡ f) × (bits_in zs ≡ each_row n (λ k. bits_result c (binary f) (g k) (h k)))
