-- Which of null, false and true a truth value may be.
use Rattle.std.specs.Prelude.{Bool, true, false, ◌&&◌, ◌||◌, not, Some, if◌then◌else◌, IsTrue}
use Rattle.vx_value.specs.Types.{Datum, null, bool}
use Rattle.vx_prune_bounds.specs.Bounds.{Bounds, bounds, contains}
pub use Rattle.vx_prune_bounds.specs.declared.truths.Truths.{Truths}

-- these together
abbrev pub truths : Bool → Bool → Bool → Truths
truths n f t = record { null = n; no = f; yes = t }

-- whether the value is one of these
abbrev pub may_be : Truths → Datum → Bool
may_be t null = t.null
may_be t (bool b) = if b then t.yes else t.no
may_be t _ = false

-- the value is one of these
abbrev pub MayBe : Truths → Datum → Type 0
MayBe t v = IsTrue (may_be t v)

-- whether the second may be all that the first may be
abbrev pub are_within : Truths → Truths → Bool
are_within s t = (not s.null || t.null) && ((not s.no || t.no) && (not s.yes || t.yes))

-- the second may be all that the first may be
abbrev pub AreWithin : Truths → Truths → Type 0
AreWithin s t = IsTrue (are_within s t)

-- what a value within the bounds may be
abbrev pub truths_in : Bounds → Truths
truths_in b = truths (contains b null) (contains b (bool false)) (contains b (bool true))

-- the bounds of a truth value that may be these
abbrev pub truth_bounds : Truths → Bounds
truth_bounds t = bounds t.null (t.no || t.yes) (Some (bool (if t.no then false else true))) (Some (bool (if t.yes then true else false)))

-- what its negation may be
abbrev pub not_truths : Truths → Truths
not_truths t = truths t.null t.yes t.no

-- what the conjunction of the two may be
abbrev pub and_truths : Truths → Truths → Truths
and_truths s t = truths ((s.null && (t.null || t.yes)) || (t.null && s.yes)) (s.no || t.no) (s.yes && t.yes)

-- what the disjunction of the two may be
abbrev pub or_truths : Truths → Truths → Truths
or_truths s t = not_truths (and_truths (not_truths s) (not_truths t))

-- whether it may be null or false
abbrev pub may_fail : Truths → Bool
may_fail t = t.null || t.no
