-- Fields of rows that are structs.
use Rattle.std.specs.Prelude.{List, map, Bool, ◌||◌, Option, Some, None, Result, Ok, Err}
use Rattle.vx_dtype.specs.declared.error.VortexError.{VortexError}
use Rattle.vx_dtype.specs.declared.error.VortexError.TheVariants.{NotAStruct, NoSuchField}
use Rattle.vx_value.specs.Columns.{Batch, batch}
use Rattle.vx_value.specs.Fields.{field_type, field_value}
use Rattle.vx_value.specs.Types.{Name, LogicalType, ty, struct, Fields, Datum, null, struct_of, is_nullable, with_nullability}

-- the value of the first field of that name of a struct, null where the struct is
abbrev pub field_at : Name → Fields → Datum → Datum
field_at a fs (struct_of vs) = field_value a fs vs
field_at a fs _ = null

-- rows of the type of a field, nullable also where its struct is; or the refusal of a name that no field has
abbrev pub rows_found : Option LogicalType → Name → Bool → List Datum → Result Batch VortexError
rows_found None a n rows = Err (NoSuchField a)
rows_found (Some t) a n rows = Ok (batch (with_nullability (is_nullable t || n) t) rows)

-- the first field of that name of each row, where the rows are of a struct type
abbrev pub field_of : Name → LogicalType → List Datum → Result Batch VortexError
field_of a (ty (struct fs) n) rows = rows_found (field_type a fs) a n (map (field_at a fs) rows)
field_of a _ rows = Err NotAStruct
