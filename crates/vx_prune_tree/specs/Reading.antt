-- What is read off a batch.
use Rattle.std.specs.Prelude.{not, List, [], ◌∷◌, Option, Some, None, map, filter, fold, length, count_by, if◌then◌else◌}
use Rattle.vx_value.specs.Paths.{Path}
use Rattle.vx_value.specs.Types.{LogicalType, Datum, is_null_datum}
use Rattle.vx_prune_bounds.specs.Order.{comparable, lower, higher}
use Rattle.vx_prune_bounds.specs.Bounds.{of_both}
use Rattle.vx_prune_tree.specs.Stats.{FieldFacts, field_facts, Facts, facts, along}

-- the value, unless it is null
abbrev pub unless_null : Datum → Option Datum
unless_null v = if is_null_datum v then None else Some v

-- those of the values that aren't null
abbrev pub not_nulls : List Datum → List Datum
not_nulls values = filter (λ v. not (is_null_datum v)) values

-- what f gives of what is found so far, if anything is, and one more value
abbrev pub next_end : (Datum → Datum → Option Datum) → Option Datum → Datum → Option Datum
next_end f found v = of_both f found (Some v)

-- what f gives of each value and those before it together: none where there is no value, and where two can't be compared
abbrev pub end_of : (Datum → Datum → Option Datum) → List Datum → Option Datum
end_of f [] = None
end_of f (v ∷ values) = fold (next_end f) (comparable v) values

-- what is known of values that are read: how many are null, and the least and the greatest of the others
abbrev pub facts_of : List Datum → FieldFacts
facts_of values = field_facts (Some (count_by is_null_datum values)) (end_of lower (not_nulls values)) (end_of higher (not_nulls values))

-- the path, and what is known of the rows' values along it
abbrev pub entry_along : LogicalType → List Datum → Path → Path × FieldFacts
entry_along t rows path = (path, facts_of (along t path rows))

-- what is known of rows of the type that are read along these paths
abbrev pub facts_along : LogicalType → List Path → List Datum → Facts
facts_along t paths rows = facts (length rows) (map (entry_along t rows) paths)
