-- What follows from what is known: bounds, which hold of each row, and are the narrower the more is known; and what is read is true.
use Rattle.std.specs.Prelude.{List}
use Rattle.vx_value.specs.Paths.{Path}
use Rattle.vx_value.specs.Types.{LogicalType, Datum}
use Rattle.vx_dtype.specs.Lists.{IsIn}
use Rattle.vx_prune_bounds.specs.Bounds.{Contains, IsWithin}
use Rattle.vx_prune_tree.specs.Stats.{Facts, Describes, AreTrueOf, along, at_path, facts_at, field_bounds}
use Rattle.vx_prune_tree.specs.Knowing.{KnowsMore}
use Rattle.vx_prune_tree.specs.Reading.{facts_along}

-- where what is known is true, the value of each row along a path is within the bounds of what is known of the path
abbrev pub BoundsHold : Type 0
BoundsHold = (f : Facts) (t : LogicalType) (rows : List Datum) → Describes f t rows → (v : Datum) → IsIn v rows →
    (path : Path) → Contains (field_bounds f.rows (facts_at f.fields path)) (at_path t path v)

-- where more is known, bounds are within those of less
abbrev pub BoundsNarrow : Type 0
BoundsNarrow = (a b : Facts) → KnowsMore a b → (path : Path) →
    IsWithin (field_bounds b.rows (facts_at b.fields path)) (field_bounds a.rows (facts_at a.fields path))

-- where more is known that is true, so is what is known less
abbrev pub LessIsTrue : Type 0
LessIsTrue = (a b : Facts) → KnowsMore a b → (t : LogicalType) (rows : List Datum) → Describes b t rows → (path : Path) → AreTrueOf (facts_at a.fields path) (along t path rows)

-- what is read off rows along paths is true of them
abbrev pub ReadIsTrue : Type 0
ReadIsTrue = (t : LogicalType) (paths : List Path) (rows : List Datum) → Describes (facts_along t paths rows) t rows
