-- Values of structs by name: as for the types, the first field of a name is meant everywhere.
use Rattle.std.specs.Prelude.{List, [], ◌∷◌, if◌then◌else◌}
use Rattle.std.specs.Str.{bytes_eq}
use Rattle.vx_value.specs.Types.{Name, Fields, field, Datum, null, Data, no_datum, datum}
pub use Rattle.vx_dtype.specs.Fields.{field_type, field_names, is_among, names_without, first_missing, field_count, put_field, project, first_unknown, fields_named}

-- the value of the first field of that name
abbrev pub field_value : Name → Fields → Data → Datum
field_value a (field b t fs) (datum v vs) = if bytes_eq a b then v else field_value a fs vs
field_value a _ _ = null

-- for each name the value of the first field of that name
abbrev pub project_values : List Name → Fields → Data → Data
project_values [] fs vs = no_datum
project_values (a ∷ names) fs vs = datum (field_value a fs vs) (project_values names fs vs)

-- the values one after another
abbrev pub data_of : List Datum → Data
data_of [] = no_datum
data_of (v ∷ vs) = datum v (data_of vs)
