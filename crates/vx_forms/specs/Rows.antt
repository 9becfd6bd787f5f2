-- Scalars and columns side by side.
use Rattle.std.specs.Prelude.{ℕ, List, [], ◌∷◌, map, length, false, All}
use Rattle.vx_value.specs.Columns.{Batch, Constant}
use Rattle.vx_value.specs.Fields.{fields_named}
use Rattle.vx_value.specs.Fits.{Fits}
use Rattle.vx_value.specs.Types.{Name, LogicalType, ty, struct}

-- how long the first column is, 0 where there is none
abbrev pub first_length : List Batch → ℕ
first_length [] = 0
first_length (c ∷ cs) = length c.rows

-- the types of scalars
abbrev pub constant_types : List Constant → List LogicalType
constant_types cs = map (λ (c : Constant). c.type) cs

-- the struct type of the scalars' types under these names, without null
abbrev pub row_type : List Name → List Constant → LogicalType
row_type names cs = ty (struct (fields_named names (constant_types cs))) false

-- each is a value beside its type, of which it is one
abbrev pub AreConstants : List Constant → Type 0
AreConstants cs = All (λ (c : Constant). Fits c.value c.type) cs
