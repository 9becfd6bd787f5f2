-- What the code tells apart on its way.
use Rattle.std.specs.Prelude.{Bool, true, false, Option, Some, None}
use Rattle.vx_value.specs.Paths.{Path, equal_path}
use Rattle.vx_fn.specs.Functions.{Function, case_when, get_item, literal, pack, select, fill_null, zip, binary, logical_not, between, like, is_null, is_not_null, mask, cast, starts_with, byte_length, list_contains}

-- whether there is a path, and it is that one
abbrev pub is_that_path : Option Path → Path → Bool
is_that_path None = λ _. false
is_that_path (Some path) = equal_path path

-- whether the function takes one, two or three children, and its bounds are made of theirs
abbrev pub is_of_children : Function → Bool
is_of_children (case_when pairs has_else) = false
is_of_children (literal u v) = false
is_of_children (pack names n) = false
is_of_children (get_item a) = true
is_of_children (select selection) = true
is_of_children fill_null = true
is_of_children zip = true
is_of_children (binary op) = true
is_of_children logical_not = true
is_of_children (between ls us) = true
is_of_children (like negated ignore_case) = true
is_of_children is_null = true
is_of_children is_not_null = true
is_of_children mask = true
is_of_children (cast u) = true
is_of_children starts_with = true
is_of_children byte_length = true
is_of_children list_contains = true
