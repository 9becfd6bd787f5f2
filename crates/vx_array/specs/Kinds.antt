-- What buffers of each kind hold, row by row.
use Rattle.std.specs.Prelude.{ℕ, ◌+◌, ◌-◌, ℤ, pos, List, map, length, get_or, take, drop, if◌then◌else◌}
use Rattle.std.specs.List.{range_with_len}
use Rattle.std.specs.Str.{is_utf8}
use Rattle.vx_dtype.specs.declared.float_type.FloatType.{FloatType}
use Rattle.vx_dtype.specs.declared.float_type.FloatType.TheVariants.{F32, F64}
use Rattle.vx_floats.specs.declared.float.Float.{Float}
use Rattle.vx_floats.specs.declared.float.Float.TheVariants as bits
use Rattle.vx_floats.specs.Floats.{canonical}
use Rattle.vx_value.specs.Types.{Datum, null, utf8}
use Rattle.vx_array.specs.declared.floats.Floats.{Floats}
use Rattle.vx_array.specs.declared.floats.Floats.TheVariants as widths
use Rattle.vx_array.specs.declared.numbers.Numbers.{Numbers}
use Rattle.vx_array.specs.declared.numbers.Numbers.TheVariants.{U8, U16, U32, U64, I8, I16, I32, I64}
use Rattle.vx_array.specs.declared.spans.Spans.{Spans}

-- the numbers, whatever their width
abbrev pub numbers_in : Numbers → List ℤ
numbers_in (U8 ns) = map (λ n. pos n) ns
numbers_in (U16 ns) = map (λ n. pos n) ns
numbers_in (U32 ns) = map (λ n. pos n) ns
numbers_in (U64 ns) = map (λ n. pos n) ns
numbers_in (I8 ns) = map (λ n. n) ns
numbers_in (I16 ns) = map (λ n. n) ns
numbers_in (I32 ns) = map (λ n. n) ns
numbers_in (I64 ns) = map (λ n. n) ns

-- the format of the floating-point numbers
abbrev pub format_in : Floats → FloatType
format_in (widths.F32 bs) = F32
format_in (widths.F64 bs) = F64

-- their bits
abbrev pub bits_in : Floats → List ℕ
bits_in (widths.F32 bs) = bs
bits_in (widths.F64 bs) = bs

-- the floating-point number of a format with these bits; each NaN is the quiet one
abbrev pub float_of : FloatType → ℕ → Float
float_of F32 b = canonical (bits.F32 b)
float_of F64 b = canonical (bits.F64 b)

-- the floating-point numbers
abbrev pub floats_in : Floats → List Float
floats_in fs = map (float_of (format_in fs)) (bits_in fs)

-- the bytes from where one offset says up to where the next one says
abbrev pub span_at : List ℕ → List ℕ → ℕ → List ℕ
span_at offsets bytes k = take (get_or offsets (k + 1) 0 - get_or offsets k 0) (drop (get_or offsets k 0) bytes)

-- the bytes of each row: one row fewer than offsets
abbrev pub spans_in : Spans → List (List ℕ)
spans_in s = map (span_at s.offsets s.bytes.value.items) (range_with_len 0 (length s.offsets - 1))

-- bytes as a text; bytes that are none are no value
abbrev pub text_row : List ℕ → Datum
text_row bs = if is_utf8 bs then utf8 bs else null
