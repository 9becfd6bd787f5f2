-- Where a column's buffers lie, and the value that a row has in them.
use Rattle.std.specs.Prelude.{ℕ, ◌+◌, ◌-◌, ◌*◌, ◌==◌, nat_le, Bool, true, false, List, [], ◌∷◌, ℤ, pos, Option, length, ok_or, Result, Ok, Err, if◌then◌else◌}
use Rattle.std.specs.Str.{is_utf8}
use Rattle.vx_dtype.specs.declared.dtype.PType.TheVariants.{I32, I64}
use Rattle.vx_value.specs.Types.{truth, number, floating, decimals, date, timestamp, text, octets, LogicalType, ty, Shape, atomic, list, fixed, struct, Fields, no_field, field, Datum, null, bool, int, float, utf8, bytes, list_of, struct_of}
use Rattle.vx_value.specs.Fields.{data_of}
use Rattle.vx_data_buffers.specs.Results.{and_then, and_so, each_from}
use Rattle.vx_data_buffers.specs.Bytes.{bytes_at, bit_of, part, number_at, float_at, units_at}
use Rattle.vx_data_buffers.specs.declared.fault.Fault.{Fault}
use Rattle.vx_data_buffers.specs.declared.fault.Fault.TheVariants.{EndsEarly, Unordered, NotUtf8}

-- how many buffers the column of a type has
abbrev mutual
  pub buffer_count : LogicalType → ℕ
  buffer_count (ty (atomic truth) n) = 2
  buffer_count (ty (atomic (number p)) n) = 2
  buffer_count (ty (atomic (floating f)) n) = 2
  buffer_count (ty (atomic (decimals p s)) n) = 2
  buffer_count (ty (atomic date) n) = 2
  buffer_count (ty (atomic (timestamp u z)) n) = 2
  buffer_count (ty (atomic text) n) = 3
  buffer_count (ty (atomic octets) n) = 3
  buffer_count (ty (list t) n) = buffer_count t + 2
  buffer_count (ty (fixed t k) n) = buffer_count t + 1
  buffer_count (ty (struct fs) n) = field_buffer_count fs + 1

  -- how many the columns of a struct's fields have
  pub field_buffer_count : Fields → ℕ
  field_buffer_count no_field = 0
  field_buffer_count (field a t fs) = buffer_count t + field_buffer_count fs

-- what is there of the buffer of that index
abbrev pub found : {A : Type 0} → ℕ → Option A → Result A Fault
found at there = ok_or there (EndsEarly at)

-- whether row i isn't null, as its bit of the validity buffer says; where that has no bytes, no row is
abbrev pub is_valid : List (List ℕ) → ℕ → ℕ → Result Bool Fault
is_valid buffers at i = if length (bytes_at buffers at) == 0 then Ok true else found at (bit_of (bytes_at buffers at) i)

-- from where up to where, as two offsets say
abbrev pub between : ℕ → ℤ → ℤ → Result (ℕ × ℕ) Fault
between at (pos m) (pos n) = if nat_le m n then Ok (m, n) else Err (Unordered at)
between at _ _ = Err (Unordered at)

-- from where up to where row i lies, as the buffer of offsets says
abbrev pub span : List (List ℕ) → ℕ → ℕ → Result (ℕ × ℕ) Fault
span buffers at i =
    let offset : ℕ → Result ℤ Fault = λ k. found at (number_at I32 (bytes_at buffers at) k) in
    and_then (offset i) (λ m. and_then (offset (i + 1)) (λ n. between at m n))

-- the bytes of row i, of the buffer behind that of the offsets
abbrev pub row_bytes : List (List ℕ) → ℕ → ℕ → Result (List ℕ) Fault
row_bytes buffers at i = and_then (span buffers at i) (λ s. found (at + 1) (part (bytes_at buffers (at + 1)) s.0 (s.1 - s.0)))

-- the bytes as a text
abbrev pub text_of : ℕ → List ℕ → Result Datum Fault
text_of at bs = if is_utf8 bs then Ok (utf8 bs) else Err (NotUtf8 at)

-- null, unless the row is valid
abbrev pub unless_null : Bool → Result Datum Fault → Result Datum Fault
unless_null true value = value
unless_null false value = Ok null

-- the value of row i of the column whose first buffer has that index
abbrev mutual
  pub value_at : List (List ℕ) → LogicalType → ℕ → ℕ → Result Datum Fault
  value_at buffers (ty s n) at i = and_then (is_valid buffers at i) (λ valid. unless_null valid (present_at buffers s (at + 1) i))

  -- the same where it isn't null, by the buffers behind that of validity
  pub present_at : List (List ℕ) → Shape → ℕ → ℕ → Result Datum Fault
  present_at buffers (atomic truth) at i = and_so (found at (bit_of (bytes_at buffers at) i)) bool
  present_at buffers (atomic (number p)) at i = and_so (found at (number_at p (bytes_at buffers at) i)) int
  present_at buffers (atomic (floating f)) at i = and_so (found at (float_at f (bytes_at buffers at) i)) float
  present_at buffers (atomic (decimals p s)) at i = and_so (found at (units_at (bytes_at buffers at) i)) int
  present_at buffers (atomic date) at i = and_so (found at (number_at I32 (bytes_at buffers at) i)) int
  present_at buffers (atomic (timestamp u z)) at i = and_so (found at (number_at I64 (bytes_at buffers at) i)) int
  present_at buffers (atomic text) at i = and_then (row_bytes buffers at i) (text_of (at + 1))
  present_at buffers (atomic octets) at i = and_so (row_bytes buffers at i) bytes
  present_at buffers (list t) at i = and_then (span buffers at i) (λ s. and_so (each_from (value_at buffers t (at + 1)) s.0 (s.1 - s.0)) (λ vs. list_of (data_of vs)))
  present_at buffers (fixed t k) at i = and_so (each_from (value_at buffers t at) (i * k) k) (λ vs. list_of (data_of vs))
  present_at buffers (struct fs) at i = and_so (fields_at buffers fs at i) (λ vs. struct_of (data_of vs))

  -- the values of a struct's fields, whose first buffer has that index
  pub fields_at : List (List ℕ) → Fields → ℕ → ℕ → Result (List Datum) Fault
  fields_at buffers no_field at i = Ok []
  fields_at buffers (field a t fs) at i = and_then (value_at buffers t at i) (λ v. and_so (fields_at buffers fs (at + buffer_count t) i) (λ vs. v ∷ vs))
