-- What is kept of a value along some paths.
use Rattle.std.specs.Prelude.{List, [], ◌∷◌, Option, Some, None, is_some, not, filter, map, if◌then◌else◌}
use Rattle.std.specs.List.{filter_map}
use Rattle.std.specs.Str.{bytes_eq}
use Rattle.vx_value.specs.Columns.{Batch, batch}
use Rattle.vx_value.specs.Paths.{Path, is_member}
use Rattle.vx_value.specs.Types.{Name, LogicalType, ty, struct, Fields, field, Datum, null, struct_of, Data, no_datum, datum}
use Rattle.vx_projection.specs.Defaults.{default_of}

-- the rest of the path behind the name, if it begins with it
abbrev pub rest_behind : Name → Path → Option Path
rest_behind a [] = None
rest_behind a (b ∷ path) = if bytes_eq a b then Some path else None

-- the rests of those paths that begin with the name
abbrev pub rests : Name → List Path → List Path
rests a paths = filter_map (rest_behind a) paths

-- the other paths
abbrev pub others : Name → List Path → List Path
others a paths = filter (λ path. not (is_some (rest_behind a path))) paths

-- all of it where the root path is one of these, what is inside where only longer paths are, and where there is no path the default
abbrev pub at_paths : {A : Type 0} → List Path → A → A → A → A
at_paths [] all inside default = default
at_paths (path ∷ paths) all inside default = if is_member (path ∷ paths) [] then all else inside

-- what is kept of a value of the type: the value itself where the root path is one of these; of a null struct null, and of a
-- struct what is kept of its fields, where some path goes on; the default where no path leads
abbrev mutual
  pub kept : List Path → LogicalType → Datum → Datum
  kept paths (ty (struct fs) n) null = at_paths paths null null (default_of (ty (struct fs) n))
  kept paths (ty (struct fs) n) (struct_of vs) = at_paths paths (struct_of vs) (struct_of (fields_kept paths fs vs)) (default_of (ty (struct fs) n))
  kept paths t v = at_paths paths v (default_of t) (default_of t)

  -- so of each field: the first one of a name is kept along the rests of the paths that begin with it, and later ones along none
  pub fields_kept : List Path → Fields → Data → Data
  fields_kept paths (field a t fs) (datum v vs) = datum (kept (rests a paths) t v) (fields_kept (others a paths) fs vs)
  fields_kept paths _ _ = no_datum

-- the batch whose rows are what is kept of the rows along the paths
abbrev pub kept_batch : List Path → Batch → Batch
kept_batch paths c = batch c.type (map (kept paths c.type) c.rows)
