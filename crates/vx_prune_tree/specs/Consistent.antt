-- Which statistics can be true of some values that aren't all null.
use Rattle.std.specs.Prelude.{◌≡◌, ℕ, ◌≤◌, Bool, true, not, Option, Some, None, IfSome, IsTrue, nat_le, if◌then◌else◌}
use Rattle.std.specs.List.{AllByRecursion}
use Rattle.vx_value.specs.Paths.{Path}
use Rattle.vx_value.specs.Types.{Datum}
use Rattle.vx_prune_bounds.specs.Order.{at_most}
use Rattle.vx_prune_tree.specs.Stats.{FieldFacts, Facts}
pub use Rattle.vx_prune_tree.specs.declared.field_stats.Inconsistency.{Inconsistency}
use Rattle.vx_prune_tree.specs.declared.field_stats.Inconsistency.TheVariants.{MoreNullsThanRows, LeastAboveGreatest}

-- there are no more nulls than rows, and the least value is at most the greatest, where they are known
pub record AreConsistent (rows : ℕ) (f : FieldFacts) : Type 0 where
  pub nulls : IfSome f.nulls (λ n. n ≤ rows)
  pub ends : IfSome f.least (λ l. IfSome f.greatest (λ g. IsTrue (at_most l g)))

-- so is what is known of each path of a chunk
abbrev pub IsConsistent : Facts → Type 0
IsConsistent f = AllByRecursion (λ (entry : Path × FieldFacts). AreConsistent f.rows entry.1) f.fields

-- whether there are no more than so many, where their number is known
abbrev pub are_at_most : Option ℕ → ℕ → Bool
are_at_most None rows = true
are_at_most (Some n) rows = nat_le n rows

-- whether the first value is at most the second, where both are known
abbrev pub are_ordered : Option Datum → Option Datum → Bool
are_ordered (Some l) (Some g) = at_most l g
are_ordered _ _ = true

-- what can't be so of values along a path in so many rows, if something can't: first by the nulls, then by the ends
abbrev pub inconsistency_of : ℕ → FieldFacts → Option Inconsistency
inconsistency_of rows f =
    if not (are_at_most f.nulls rows) then Some MoreNullsThanRows
    else if not (are_ordered f.least f.greatest) then Some LeastAboveGreatest
    else None
