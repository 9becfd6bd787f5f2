-- What is kept of structs whose fields stand in columns.
use Rattle.std.specs.Prelude.{ℕ, Bool, List, [], ◌∷◌, length, map, nat_le}
use Rattle.std.specs.List.{list_all}
use Rattle.vx_value.specs.Paths.{Path}
use Rattle.vx_value.specs.Types.{Fields, field, Datum}
use Rattle.vx_array.specs.declared.lanes.Lanes.{Lanes}
use Rattle.vx_array.specs.Rows.{lanes_rows}
use Rattle.vx_projection.specs.Kept.{kept, others, rests}

-- what is kept of each column, as of a struct's fields: of the first one of a name along the rests of the paths that begin with it, and of later ones along none
abbrev pub columns_kept : List Path → Fields → List (List Datum) → List (List Datum)
columns_kept paths (field a t fs) (rows ∷ columns) = map (kept (rests a paths) t) rows ∷ columns_kept (others a paths) fs columns
columns_kept paths _ _ = []

-- whether each column has n rows or more
abbrev pub are_long : ℕ → List Lanes → Bool
are_long n columns = list_all (λ column. nat_le n (length (lanes_rows column))) columns
