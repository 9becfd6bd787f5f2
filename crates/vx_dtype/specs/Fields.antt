-- Fields of structs by name: the first field of a name is meant everywhere.
use Rattle.std.specs.Prelude.{ℕ, ◌+◌, Bool, List, [], ◌∷◌, Option, Some, None, if◌then◌else◌, filter, find, not}
use Rattle.std.specs.List.{list_any}
use Rattle.std.specs.Str.{bytes_eq}
use Rattle.vx_dtype.specs.Types.{Name, LogicalType, Fields, no_field, field}

-- the type of the first field of that name
abbrev pub field_type : Name → Fields → Option LogicalType
field_type a no_field = None
field_type a (field b t fs) = if bytes_eq a b then Some t else field_type a fs

-- the names of the fields, in their order
abbrev pub field_names : Fields → List Name
field_names no_field = []
field_names (field a t fs) = a ∷ field_names fs

-- whether the name is one of the names
abbrev pub is_among : List Name → Name → Bool
is_among names a = list_any (bytes_eq a) names

-- the names but the given ones
abbrev pub names_without : List Name → List Name → List Name
names_without left_out names = filter (λ a. not (is_among left_out a)) names

-- the first of the names that isn't among those
abbrev pub first_missing : List Name → List Name → Option Name
first_missing available names = find (λ a. not (is_among available a)) names

-- how many fields there are
abbrev pub field_count : Fields → ℕ
field_count no_field = 0
field_count (field a t fs) = field_count fs + 1

-- the fields with another in front, if there is one
abbrev pub put_field : Name → Option LogicalType → Fields → Fields
put_field a None fs = fs
put_field a (Some t) fs = field a t fs

-- for each name the first field of that name
abbrev pub project : List Name → Fields → Fields
project [] fs = no_field
project (a ∷ names) fs = put_field a (field_type a fs) (project names fs)

-- the first of the names that no field has
abbrev pub first_unknown : List Name → Fields → Option Name
first_unknown names fs = first_missing (field_names fs) names

-- each name with the type beside it, as long as both last
abbrev pub fields_named : List Name → List LogicalType → Fields
fields_named (a ∷ names) (t ∷ ts) = field a t (fields_named names ts)
fields_named _ _ = no_field
