-- What the program's types stand for.
use Rattle.std.specs.Prelude.{◌≡◌, Bool, true, false, List, map}
use Rattle.vx_dtype.specs.declared.dtype.Nullability.{Nullability}
use Rattle.vx_dtype.specs.declared.dtype.Nullability.TheVariants.{NonNullable, Nullable}
use Rattle.vx_dtype.specs.declared.dtype.DType.{DType, fold-DType}
use Rattle.vx_dtype.specs.declared.dtype.DType.TheOpen.{DType-F, StructFields-F}
use Rattle.vx_dtype.specs.declared.dtype.StructFields.{StructFields}
use Rattle.vx_dtype.specs.Timestamps.{instants}
use Rattle.vx_dtype.specs.Types.{Name, truth, number, floating, decimals, date, text, octets, LogicalType, ty, atomic, list, fixed, struct, Fields}
use Rattle.vx_dtype.specs.Fields.{fields_named}

-- whether null is admitted
abbrev pub admits_null : Nullability → Bool
admits_null NonNullable = false
admits_null Nullable = true

-- a type is made from its parts, seen already
abbrev pub type_step : DType-F LogicalType Fields → LogicalType
type_step (DType-F.Bool n) = ty (atomic truth) (admits_null n)
type_step (DType-F.Primitive p n) = ty (atomic (number p)) (admits_null n)
type_step (DType-F.Float f n) = ty (atomic (floating f)) (admits_null n)
type_step (DType-F.Decimal d n) = ty (atomic (decimals d.precision d.scale)) (admits_null n)
type_step (DType-F.Date n) = ty (atomic date) (admits_null n)
type_step (DType-F.Timestamp t n) = ty (atomic (instants t)) (admits_null n)
type_step (DType-F.Utf8 n) = ty (atomic text) (admits_null n)
type_step (DType-F.Binary n) = ty (atomic octets) (admits_null n)
type_step (DType-F.List t n) = ty (list t.value) (admits_null n)
type_step (DType-F.FixedSizeList t size n) = ty (fixed t.value size) (admits_null n)
type_step (DType-F.Struct fs n) = ty (struct fs) (admits_null n)

-- the fields of a struct, whose types are seen already
abbrev pub fields_step : StructFields-F LogicalType Fields → Fields
fields_step s = fields_named s.names s.types.value.items

-- the type that a `DType` stands for
abbrev pub type_of : DType → LogicalType
type_of = fold-DType LogicalType Fields type_step fields_step

-- names and types side by side
abbrev pub fields_view : List Name → List DType → Fields
fields_view names types = fields_named names (map type_of types)

-- the fields that a `StructFields` stands for
abbrev pub fields_of : StructFields → Fields
fields_of s = fields_view s.names s.types.value.items

-- the names of a struct's fields, and those beyond its types
abbrev pub names_of : StructFields → List Name
names_of s = s.names

-- the same fields, under names that are the same also beyond the types
abbrev pub SameFields : StructFields → StructFields → Type 0
SameFields s copy = (fields_of copy ≡ fields_of s) × (names_of copy ≡ names_of s)
