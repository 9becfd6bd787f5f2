-- Bits and numbers of a buffer's bytes, where the buffer has them.
use Rattle.std.specs.Prelude.{ℕ, ◌+◌, ◌*◌, ◌/◌, ◌%◌, Bool, ◌==◌, nat_le, List, [], map, take, drop, length, get_or, ℤ, pos, Option, Some, None, option_map, slice_get, if◌then◌else◌}
use Rattle.std.specs.Int.{bit_at, cast_signed, from_le_bytes, w8, w16, w32, w64, w128}
use Rattle.vx_dtype.specs.declared.dtype.PType.{PType}
use Rattle.vx_dtype.specs.declared.dtype.PType.TheVariants.{U8, U16, U32, U64, I8, I16, I32, I64}
use Rattle.vx_dtype.specs.declared.float_type.FloatType.{FloatType}
use Rattle.vx_dtype.specs.declared.float_type.FloatType.TheVariants.{F32, F64}
use Rattle.vx_floats.specs.declared.float.Float.{Float}
use Rattle.vx_floats.specs.declared.float.Float.TheVariants as bits
use Rattle.vx_floats.specs.Floats.{canonical}
use Rattle.vx_data_buffers.specs.declared.buffer.Buffer.{Buffer}

-- the bytes of each buffer
abbrev pub bytes_in : List Buffer → List (List ℕ)
bytes_in buffers = map (λ (b : Buffer). b.bytes.now) buffers

-- the bytes of the buffer of that index
abbrev pub bytes_at : List (List ℕ) → ℕ → List ℕ
bytes_at buffers at = get_or buffers at []

-- bit i, the least significant of a byte first
abbrev pub bit_of : List ℕ → ℕ → Option Bool
bit_of bytes i = option_map (λ byte. bit_at byte (i % 8) == 1) (slice_get bytes (i / 8))

-- so many bytes from there on
abbrev pub part : List ℕ → ℕ → ℕ → Option (List ℕ)
part bytes from size = if nat_le (from + size) (length bytes) then Some (take size (drop from bytes)) else None

-- how many bytes a number of the type has
abbrev pub width : PType → ℕ
width U8 = 1
width U16 = 2
width U32 = 4
width U64 = 8
width I8 = 1
width I16 = 2
width I32 = 4
width I64 = 8

-- the number that the bytes spell, little endian, in two's complement where the type is signed
abbrev pub number_of : PType → List ℕ → ℤ
number_of U8 bytes = pos (from_le_bytes w8 bytes)
number_of U16 bytes = pos (from_le_bytes w16 bytes)
number_of U32 bytes = pos (from_le_bytes w32 bytes)
number_of U64 bytes = pos (from_le_bytes w64 bytes)
number_of I8 bytes = cast_signed w8 (from_le_bytes w8 bytes)
number_of I16 bytes = cast_signed w16 (from_le_bytes w16 bytes)
number_of I32 bytes = cast_signed w32 (from_le_bytes w32 bytes)
number_of I64 bytes = cast_signed w64 (from_le_bytes w64 bytes)

-- number i of the type
abbrev pub number_at : PType → List ℕ → ℕ → Option ℤ
number_at p bytes i = option_map (number_of p) (part bytes (i * width p) (width p))

-- how many bytes a floating-point number of the format has
abbrev pub float_width : FloatType → ℕ
float_width F32 = 4
float_width F64 = 8

-- the type of the numbers that have the bits of a format's
abbrev pub bits_type : FloatType → PType
bits_type F32 = U32
bits_type F64 = U64

-- the floating-point number whose bits the bytes spell, little endian; each NaN is the quiet one
abbrev pub float_of : FloatType → List ℕ → Float
float_of F32 bytes = canonical (bits.F32 (from_le_bytes w32 bytes))
float_of F64 bytes = canonical (bits.F64 (from_le_bytes w64 bytes))

-- floating-point number i of the format
abbrev pub float_at : FloatType → List ℕ → ℕ → Option Float
float_at f bytes i = option_map (float_of f) (part bytes (i * float_width f) (float_width f))

-- the units of decimal i: sixteen bytes, little endian, in two's complement
abbrev pub units_at : List ℕ → ℕ → Option ℤ
units_at bytes i = option_map (λ b. cast_signed w128 (from_le_bytes w128 b)) (part bytes (i * 16) 16)
