-- Columns that are read at once.
use Rattle.std.specs.Prelude.{◌≡◌, ℕ, ◌<◌, Bool, true, false, List, map, length, get_or, ℤ, pos, Option, Some, None, Ok, if◌then◌else◌}
use Rattle.vx_dtype.specs.declared.dtype.PType.{PType}
use Rattle.vx_dtype.specs.declared.float_type.FloatType.{FloatType}
use Rattle.vx_value.specs.Types.{LogicalType, Shape, atomic, floating, Fields, null, int}
use Rattle.vx_value.specs.Columns.{Batch}
use Rattle.vx_value.specs.StructColumns.{row_at, rows_in}
use Rattle.vx_array.specs.declared.validity.Validity.{Validity}
use Rattle.vx_array.specs.Shown as shown
use Rattle.vx_array.specs.Shown.{shown_count}
use Rattle.vx_array_build.specs.Built.{column_by}
use Rattle.vx_array_build.specs.FloatBits.{float_row}
use Rattle.vx_array_build.specs.Lanes.{lane_of}
use Rattle.vx_data_buffers.specs.Bytes.{bit_of, number_at}
use Rattle.vx_data_buffers.specs.Layout.{is_valid, fields_at, value_at}

-- so many truth values are the bits of the bytes
abbrev pub AreBits : List ℕ → ℕ → List Bool → Type 0
AreBits bytes rows bits = (length bits ≡ rows) × ((i : ℕ) → i < rows → bit_of bytes i ≡ Some (get_or bits i false))

-- so many numbers are those of the type in the bytes
abbrev pub AreNumbers : PType → List ℕ → ℕ → List ℤ → Type 0
AreNumbers p bytes rows ns = (length ns ≡ rows) × ((i : ℕ) → i < rows → number_at p bytes i ≡ Some (get_or ns i (pos 0)))

-- so many numbers are those as which the type's values lie in the bytes
abbrev pub AreValues : Shape → List ℕ → ℕ → List ℤ → Type 0
AreValues s bytes rows ns = (p : PType) × (lane_of s ≡ Some p) × AreNumbers p bytes rows ns

-- the batch has so many values of the type, which lie in the bytes as numbers
abbrev pub HasNumbers : List ℕ → Shape → ℕ → Option Validity → Batch → Type 0
HasNumbers bytes s rows v b = (ns : List ℤ) × AreValues s bytes rows ns × (b ≡ column_by s v (map int ns))

-- the batch has so many floating-point numbers of the format, whose bits lie in the bytes as numbers of the type
abbrev pub HasFloats : List ℕ → FloatType → PType → ℕ → Option Validity → Batch → Type 0
HasFloats bytes f p rows v b = (ns : List ℤ) × AreNumbers p bytes rows ns × (b ≡ column_by (atomic (floating f)) v (map (float_row f) (map int ns)))

-- the validity says of so many rows what the buffer of that index says, and of a type without null that no row is null
pub record Tells (buffers : List (List ℕ)) (at rows : ℕ) (nullable : Bool) (v : Validity) : Type 0 where
  pub count : shown_count v rows ≡ rows
  pub each : (i : ℕ) → i < rows → is_valid buffers at i ≡ Ok (shown.is_valid v i)
  pub full : nullable ≡ false → (i : ℕ) → i < rows → shown.is_valid v i ≡ true

-- the validity of a type that has null
abbrev pub if_nullable : Bool → Validity → Option Validity
if_nullable nullable v = if nullable then Some v else None

-- the batch is of the type, and has so many rows, each of which is that of the column whose first buffer has that index
pub record IsColumn (buffers : List (List ℕ)) (t : LogicalType) (at rows : ℕ) (b : Batch) : Type 0 where
  pub type : b.type ≡ t
  pub count : length b.rows ≡ rows
  pub each : (i : ℕ) → i < rows → value_at buffers t at i ≡ Ok (get_or b.rows i null)

-- the batches have, of so many rows of a struct, the values of each field, whose first buffer has that index
abbrev pub HaveFields : List (List ℕ) → Fields → ℕ → ℕ → List Batch → Type 0
HaveFields buffers fs at rows cs = (i : ℕ) → i < rows → fields_at buffers fs at i ≡ Ok (row_at i (rows_in cs))
