-- Columns that are written into buffers.
use Rattle.std.specs.Prelude.{◌≡◌, ℕ, zero, suc, ◌+◌, ◌*◌, ◌<◌, ◌==◌, Bool, true, false, List, [], ◌∷◌, ◌++◌, ℤ, pos, length, map, get_or, Ok, if◌then◌else◌}
use Rattle.std.specs.Int.{div_ceil}
use Rattle.std.specs.Global.{Vec}
use Rattle.vx_value.specs.Types.{Shape, atomic, floating}
use Rattle.vx_value.specs.Columns.{Batch}
use Rattle.vx_array.specs.declared.floats.Floats.{Floats}
use Rattle.vx_array.specs.declared.validity.Validity.{Validity}
use Rattle.vx_array.specs.Kinds.{bits_in, floats_in, format_in}
use Rattle.vx_array.specs.Shown as shown
use Rattle.vx_array_loops.specs.WordBits.{each_row}
use Rattle.vx_dtype.specs.declared.dtype.PType.{PType}
use Rattle.vx_data_buffers.specs.Arrays.{AreBits, AreNumbers, AreValues}
use Rattle.vx_data_buffers.specs.Bytes.{bit_of, bits_type, number_of, width}
use Rattle.vx_data_buffers.specs.Layout.{found}
use Rattle.vx_data_buffers.specs.Rows.{column_said}

-- the bytes of each buffer
abbrev pub lists_in : List (Vec ℕ) → List (List ℕ)
lists_in buffers = map (λ (b : Vec ℕ). b.items) buffers

-- the buffers have the column: what is read of them, by its type and number of rows, is the column again
abbrev pub AreBuffersOf : Batch → List (List ℕ) → Type 0
AreBuffersOf column buffers = column_said buffers column.type (length column.rows) ≡ Ok column

-- the bits of so many truth values as a number, least first
abbrev pub packed_bits : (ℕ → Bool) → ℕ → ℕ
packed_bits f zero = 0
packed_bits f (suc n) = (if f 0 then 1 else 0) + 2 * packed_bits (λ k. f (suc k)) n

-- the bits of truth values, least first, in as many bytes as they need
abbrev pub packed_bytes : List Bool → List ℕ
packed_bytes bits = each_row (div_ceil (length bits) 8) (λ k. packed_bits (λ j. get_or bits (k * 8 + j) false) 8)

-- the bytes of a validity buffer say of so many rows what the validity does
abbrev pub SayValid : List ℕ → ℕ → Validity → Type 0
SayValid bytes rows v = (i : ℕ) → i < rows → (if length bytes == 0 then Ok true else found 0 (bit_of bytes i)) ≡ Ok (shown.is_valid v i)

-- the bytes of a number of the type were added
abbrev pub AddsNumber : PType → List ℕ → ℤ → List ℕ → Type 0
AddsNumber p before n after = (bytes : List ℕ) × (after ≡ before ++ bytes) × (length bytes ≡ width p) × (number_of p bytes ≡ n)

-- the two buffers have these truth values, of which the validity says which are null
abbrev pub HaveTruths : List Bool → Validity → List (List ℕ) → Type 0
HaveTruths bits v buffers = (valid values : List ℕ) × (buffers ≡ valid ∷ values ∷ []) × SayValid valid (length bits) v × AreBits values (length bits) bits

-- the same of numbers as which values of a type lie there
abbrev pub HaveValues : Shape → List ℤ → Validity → List (List ℕ) → Type 0
HaveValues s ns v buffers = (valid values : List ℕ) × (buffers ≡ valid ∷ values ∷ []) × SayValid valid (length ns) v × AreValues s values (length ns) ns

-- the same of the bits of floating-point numbers, of which the shape is
abbrev pub HaveFloats : Shape → Floats → Validity → List (List ℕ) → Type 0
HaveFloats s fs v buffers =
    (s ≡ atomic (floating (format_in fs)))
    × (valid values : List ℕ) × (buffers ≡ valid ∷ values ∷ []) × SayValid valid (length (floats_in fs)) v × AreNumbers (bits_type (format_in fs)) values (length (floats_in fs)) (map (λ b. pos b) (bits_in fs))
