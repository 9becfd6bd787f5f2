pub mod FieldColumns
