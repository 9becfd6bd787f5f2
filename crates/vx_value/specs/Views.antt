-- What the program's types and values stand for.
use Rattle.std.specs.Prelude.{List, map, string_bytes}
use Rattle.vx_value.specs.declared.value.Value.{Value, fold-Value}
use Rattle.vx_value.specs.declared.value.Value.TheOpen.{Value-F}
use Rattle.vx_value.specs.declared.column_rows.ColumnRows.{ColumnRows}
use Rattle.vx_value.specs.declared.column_rows.ColumnRows.TheVariants.{Own, Shared}
use Rattle.vx_value.specs.Fields.{data_of}
use Rattle.vx_value.specs.Values.{Datum, null, bool, int, float, utf8, bytes, list_of, struct_of, Data}
pub use Rattle.vx_dtype.specs.Views.{admits_null, type_step, fields_step, type_of, fields_view, fields_of, names_of, SameFields}

-- a value is made from its parts, seen already
abbrev pub value_step : Value-F Datum → Datum
value_step Value-F.Null = null
value_step (Value-F.Bool b) = bool b
value_step (Value-F.Int i) = int i
value_step (Value-F.Float x) = float x
value_step (Value-F.Utf8 s) = utf8 (string_bytes s)
value_step (Value-F.Binary v) = bytes v.items
value_step (Value-F.List v) = list_of (data_of v.items)
value_step (Value-F.Struct v) = struct_of (data_of v.items)

-- the value that a `Value` stands for
abbrev pub value_of : Value → Datum
value_of = fold-Value Datum value_step

-- the values that these stand for, one after another
abbrev pub data_view : List Value → Data
data_view vs = data_of (map value_of vs)

-- the values that a column holds or shares
abbrev pub rows_held : ColumnRows → List Datum
rows_held (Own values) = map value_of values.items
rows_held (Shared values) = map value_of values.value.items
