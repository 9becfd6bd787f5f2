-- More and less known.
use Rattle.std.specs.Prelude.{◌≡◌, ◌⊎◌, Some, IfSome, IsTrue}
use Rattle.std.specs.Option.{IsSomeAnd}
use Rattle.vx_value.specs.Paths.{Path}
use Rattle.vx_value.specs.Types.{Datum}
use Rattle.vx_prune_bounds.specs.Order.{at_most}
use Rattle.vx_prune_tree.specs.Stats.{FieldFacts, Facts, facts_at}

-- the values are the same, or the first is at most the second
abbrev pub IsSameOrAtMost : Datum → Datum → Type 0
IsSameOrAtMost l m = (l ≡ m) ⊎ IsTrue (at_most l m)

-- the second says all that the first says of the values along a path, or more: the same number of nulls, a least value that is as high or
-- higher, and a greatest one that is as low or lower, where the first has them
pub record FieldKnowsMore (a b : FieldFacts) : Type 0 where
  pub nulls : IfSome a.nulls (λ n. b.nulls ≡ Some n)
  pub least : IfSome a.least (λ l. IsSomeAnd b.least (λ m. IsSameOrAtMost l m))
  pub greatest : IfSome a.greatest (λ g. IsSomeAnd b.greatest (λ h. IsSameOrAtMost h g))

-- the second says all that the first says of a chunk, or more: the same number of rows, and so of each path
pub record KnowsMore (a b : Facts) : Type 0 where
  pub rows : b.rows ≡ a.rows
  pub fields : (path : Path) → FieldKnowsMore (facts_at a.fields path) (facts_at b.fields path)
