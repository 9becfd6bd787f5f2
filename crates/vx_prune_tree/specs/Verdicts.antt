-- Whether a predicate is true in no row of a chunk, in every row, or that isn't known.
use Rattle.std.specs.Prelude.{◌≡◌, ◌≢◌, ◌==◌, true, false, not, List, if◌then◌else◌}
use Rattle.vx_value.specs.Fits.{IsBatch}
use Rattle.vx_value.specs.Types.{LogicalType, Datum}
use Rattle.vx_fn.specs.Values.{is_true}
use Rattle.vx_tree.specs.Faults.{HasNoFault}
use Rattle.vx_tree.specs.Meaning.{mean}
use Rattle.vx_tree.specs.Trees.{BoundTree, unbound, Over}
use Rattle.vx_dtype.specs.Lists.{IsIn}
use Rattle.vx_prune_bounds.specs.Bounds.{Contains, IsWithin}
use Rattle.vx_prune_bounds.specs.declared.truths.Truths.{Truths}
use Rattle.vx_prune_bounds.specs.Truths.{truths_in, may_fail}
use Rattle.vx_prune_tree.specs.Knowing.{KnowsMore}
use Rattle.vx_prune_tree.specs.Stats.{Facts, Describes}
use Rattle.vx_prune_tree.specs.Bounding.{bounds_in}
use Rattle.vx_prune_tree.specs.declared.verdicts.Verdict.{Verdict}
use Rattle.vx_prune_tree.specs.declared.verdicts.Verdict.TheVariants.{NoRow, EveryRow, Unknown}

-- no row where it can't be true, else every row where it can't be anything else
abbrev pub verdict_of : Truths → Verdict
verdict_of t = if not t.yes then NoRow else if not (may_fail t) then EveryRow else Unknown

-- of a chunk without rows no row, else by what the tree's value may be
abbrev pub verdict_in : Facts → BoundTree → Verdict
verdict_in facts b = if facts.rows == 0 then NoRow else verdict_of (truths_in (bounds_in facts b))

-- what is said of the rows of a chunk is so: a promise of each batch that the statistics describe and on which the tree doesn't fault
abbrev pub OnDescribed : Facts → BoundTree → (LogicalType → List Datum → Type 0) → Type 0
OnDescribed facts b Said = (s : LogicalType) (rows : List Datum) → Over b s → IsBatch s rows → Describes facts s rows → HasNoFault b rows → Said s rows

-- each row's meaning is within the bounds
abbrev pub BoundsHold : Facts → BoundTree → Type 0
BoundsHold facts b = OnDescribed facts b (λ s rows. (v : Datum) → IsIn v rows → Contains (bounds_in facts b) (mean (unbound b) s v))

-- no row is true where no row is said to be, and every row where every row is
abbrev pub IsTrueVerdict : BoundTree → LogicalType → List Datum → Verdict → Type 0
IsTrueVerdict b s rows NoRow = (v : Datum) → IsIn v rows → is_true (mean (unbound b) s v) ≡ false
IsTrueVerdict b s rows EveryRow = (v : Datum) → IsIn v rows → is_true (mean (unbound b) s v) ≡ true
IsTrueVerdict b s rows Unknown = Unit {0}

-- a verdict is so of each batch that the statistics describe
abbrev pub VerdictHolds : Facts → BoundTree → Verdict → Type 0
VerdictHolds facts b verdict = OnDescribed facts b (λ s rows. IsTrueVerdict b s rows verdict)

-- the second verdict is as sure as the first: where the first knows something so does the second, and no row stays no row
abbrev pub IsAsSure : Verdict → Verdict → Type 0
IsAsSure NoRow w = w ≡ NoRow
IsAsSure EveryRow w = w ≢ Unknown
IsAsSure Unknown w = Unit {0}

-- statistics that say more narrow the bounds
abbrev pub MoreNarrows : Type 0
MoreNarrows = (less more : Facts) (b : BoundTree) → KnowsMore less more → IsWithin (bounds_in more b) (bounds_in less b)

-- and never make a verdict less sure
abbrev pub MoreIsAsSure : Type 0
MoreIsAsSure = (less more : Facts) (b : BoundTree) → KnowsMore less more → IsAsSure (verdict_in less b) (verdict_in more b)
