-- Types and values: what a value may be, and what it may be a value of.
pub use Rattle.vx_dtype.specs.Types.{Name, bits, is_signed, ptype_index, float_type_index, unit_index, same_ptype, same_float_type, same_unit, same_zone, Atomic, truth, number, floating, decimals, date, timestamp, text, octets, same_atomic, LogicalType, ty, Shape, atomic, list, fixed, struct, Fields, no_field, field, items_type}
pub use Rattle.vx_dtype.specs.Types.{shape_of, struct_fields, is_nullable, with_nullability}
pub use Rattle.vx_value.specs.Values.{Datum, null, bool, int, float, utf8, bytes, list_of, struct_of, Data, no_datum, datum, is_null_datum}
