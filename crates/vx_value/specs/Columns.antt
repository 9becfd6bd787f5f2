-- What a scalar and a column stand for.
use Rattle.std.specs.Prelude.{map, ◌≡◌, ℕ, suc, ℤ, ◌<◌, length, get_or, Bool, false, ◌&&◌, if◌then◌else◌, List, [], ◌∷◌, Option, Some, None, Result, Ok, Err, refl, ◌++◌}
use Rattle.std.specs.Option.{option_map}
use Rattle.std.specs.Coded.{Coded, code_by, coded×, coded_list}
use Rattle.std.specs.Hash.{HashWrites}
use Rattle.vx_floats.specs.Floats.{format_of}
use Rattle.vx_floats.specs.declared.float.Float.{Float}
use Rattle.vx_value.specs.Types.{truth, number, floating, text, octets, LogicalType, ty, atomic, Datum, null, bool, int, float, utf8, bytes, struct_of}
use Rattle.vx_dtype.specs.declared.dtype.PType.{PType}
use Rattle.vx_dtype.specs.declared.error.VortexError.{VortexError}
use Rattle.vx_dtype.specs.declared.error.VortexError.TheVariants.{RowMisfit}
use Rattle.vx_value.specs.Fields.{data_of}
use Rattle.vx_value.specs.Fits.{fits, Fits}
use Rattle.vx_value.specs.Codes.{type_code, datum_code}
use Rattle.vx_value.specs.Equality.{equal_type, equal_datum, equal_data}
use Rattle.vx_value.specs.Hashes.{type_fed, datum_fed}

-- a value beside its type
pub record Constant : Type 0 where
  pub type : LogicalType
  pub value : Datum

-- rows beside their type
pub record Batch : Type 0 where
  pub type : LogicalType
  pub rows : List Datum

-- this value of that type
abbrev pub constant : LogicalType → Datum → Constant
constant t v = record { type = t; value = v }

-- this value of that type, or the refusal of row 0 where it is none of the type
abbrev pub constant_or_misfit : LogicalType → Datum → Result Constant VortexError
constant_or_misfit t v = if fits v t then Ok (constant t v) else Err (RowMisfit 0)

-- the truth value, of a type without null
abbrev pub truth_constant : Bool → Constant
truth_constant b = constant (ty (atomic truth) false) (bool b)

-- the whole number, of that type without null
abbrev pub number_constant : PType → ℤ → Constant
number_constant p i = constant (ty (atomic (number p)) false) (int i)

-- the floating-point number, of its format's type without null
abbrev pub float_constant : Float → Constant
float_constant x = constant (ty (atomic (floating (format_of x))) false) (float x)

-- the text of these bytes, of a type without null
abbrev pub text_constant : List ℕ → Constant
text_constant s = constant (ty (atomic text) false) (utf8 s)

-- the bytes, of a type without null
abbrev pub octets_constant : List ℕ → Constant
octets_constant bs = constant (ty (atomic octets) false) (bytes bs)

-- the struct of these scalars' values
abbrev pub struct_value : List Constant → Datum
struct_value fields = struct_of (data_of (map (λ (c : Constant). c.value) fields))

-- these rows of that type
abbrev pub batch : LogicalType → List Datum → Batch
batch t rows = record { type = t; rows = rows }

-- the index of the first row that isn't one of the type
abbrev pub first_misfit : LogicalType → List Datum → Option ℕ
first_misfit t [] = None
first_misfit t (v ∷ rows) = if fits v t then option_map (λ i. suc i) (first_misfit t rows) else Some 0

-- the row of that index isn't one of the type, and each row before it is
abbrev pub IsFirstMisfit : LogicalType → List Datum → ℕ → Type 0
IsFirstMisfit t rows i = (i < length rows) × (fits (get_or rows i null) t ≡ false) × ((k : ℕ) → k < i → Fits (get_or rows k null) t)

-- columns may be what a `Model` shows
abbrev pub batch_code : Coded Batch
batch_code = code_by (LogicalType × List Datum) (coded× type_code (coded_list datum_code)) (λ b. (b.type, b.rows)) (λ p. record { type = p.0; rows = p.1 }) (λ _. refl)

-- scalars may be what a `Model` shows
abbrev pub constant_code : Coded Constant
constant_code = code_by (LogicalType × Datum) (coded× type_code datum_code) (λ c. (c.type, c.value)) (λ p. record { type = p.0; value = p.1 }) (λ _. refl)

-- whether two scalars have one type and one value
abbrev pub equal_constant : Constant → Constant → Bool
equal_constant a b = equal_type a.type b.type && equal_datum a.value b.value

-- a scalar is hashed as its type and then its value
abbrev pub constant_fed : Constant → HashWrites
constant_fed c = type_fed c.type ++ datum_fed c.value

-- whether two columns have one type and the same rows
abbrev pub equal_batch : Batch → Batch → Bool
equal_batch a b = equal_type a.type b.type && equal_data (data_of a.rows) (data_of b.rows)
