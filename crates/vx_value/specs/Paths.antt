-- Paths of fields, and sets of them.
use Rattle.std.specs.Prelude.{Bool, true, false, not, ◌&&◌, List, [], ◌∷◌, ◌++◌, map, filter, fold, if◌then◌else◌}
use Rattle.std.specs.List.{list_any}
use Rattle.std.specs.Str.{bytes_eq}
use Rattle.std.specs.Cmp.Lexicographic.{pointwise}
use Rattle.vx_value.specs.Types.{Name}
use Rattle.vx_value.specs.declared.field_path.Field.{Field}
use Rattle.vx_value.specs.declared.field_path.Field.TheVariants.{Name as named}

-- the names of fields, each inside the one before; the root path has none
abbrev pub Path : Type 0
Path = List Name

-- the name that a part of a path is
abbrev pub part_name : Field → Name
part_name (named a) = a

-- the path of these parts
abbrev pub path_of : List Field → Path
path_of = map part_name

-- whether two paths are the same
abbrev pub equal_path : Path → Path → Bool
equal_path = pointwise bytes_eq

-- whether the path is one of these
abbrev pub is_member : List Path → Path → Bool
is_member paths p = list_any (equal_path p) paths

-- the path behind those that are there, unless it is one of them
abbrev pub add_path : List Path → Path → List Path
add_path paths p = if is_member paths p then paths else paths ++ p ∷ []

-- one path after another is added
abbrev pub add_paths : List Path → List Path → List Path
add_paths paths added = fold add_path paths added

-- whether the first path is a beginning of the second, and not all of it
abbrev pub is_proper_prefix : Path → Path → Bool
is_proper_prefix q [] = false
is_proper_prefix [] (a ∷ p) = true
is_proper_prefix (b ∷ q) (a ∷ p) = bytes_eq b a && is_proper_prefix q p

-- whether some path is a proper prefix of this one
abbrev pub has_proper_prefix : List Path → Path → Bool
has_proper_prefix paths p = list_any (λ q. is_proper_prefix q p) paths

-- those of which no other is a proper prefix
abbrev pub minimal_paths : List Path → List Path
minimal_paths paths = filter (λ p. not (has_proper_prefix paths p)) paths
