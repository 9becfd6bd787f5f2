-- The value that stands where nothing is kept.
use Rattle.std.specs.Prelude.{false, [], pos, replicate, if◌then◌else◌}
use Rattle.vx_dtype.specs.declared.float_type.FloatType.{FloatType}
use Rattle.vx_floats.specs.declared.float.Float.{Float}
use Rattle.vx_floats.specs.declared.float.Float.TheVariants.{F32, F64}
use Rattle.vx_value.specs.Fields.{data_of}
use Rattle.vx_value.specs.Types.{truth, number, floating, decimals, date, timestamp, text, octets, LogicalType, ty, Shape, atomic, list, fixed, struct, Fields, no_field, field, Datum, null, bool, int, float, utf8, bytes, list_of, struct_of, Data, no_datum, datum}

-- the zero of a format, of which no bit is set
abbrev pub zero_of : FloatType → Float
zero_of FloatType.F32 = F32 0
zero_of FloatType.F64 = F64 0

-- null where the type is nullable, else false, 0, an empty text, no byte, no item, or so many defaults or a default for each field
abbrev mutual
  pub default_of : LogicalType → Datum
  default_of (ty s n) = if n then null else shape_default s

  -- that of the shape, where it is never null
  pub shape_default : Shape → Datum
  shape_default (atomic truth) = bool false
  shape_default (atomic (number p)) = int (pos 0)
  shape_default (atomic (floating f)) = float (zero_of f)
  shape_default (atomic (decimals p s)) = int (pos 0)
  shape_default (atomic date) = int (pos 0)
  shape_default (atomic (timestamp u z)) = int (pos 0)
  shape_default (atomic text) = utf8 []
  shape_default (atomic octets) = bytes []
  shape_default (list t) = list_of no_datum
  shape_default (fixed t k) = list_of (data_of (replicate k (default_of t)))
  shape_default (struct fs) = struct_of (field_defaults fs)

  -- that of each field
  pub field_defaults : Fields → Data
  field_defaults no_field = no_datum
  field_defaults (field a t fs) = datum (default_of t) (field_defaults fs)
