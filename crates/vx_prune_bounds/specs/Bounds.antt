-- What is known of a value: whether it may be null, whether it may be something else, and between which values it lies then.
use Rattle.std.specs.Prelude.{Bool, true, false, ◌&&◌, ◌||◌, not, Option, Some, None, if◌then◌else◌, IsTrue}
use Rattle.vx_value.specs.Types.{LogicalType, Datum, is_null_datum, is_nullable}
use Rattle.vx_prune_bounds.specs.Order.{at_most, comparable, lower, higher}

-- whether the value may be null, whether it may be another one, and the least and the greatest that it may be then, where they are known
pub record Bounds : Type 0 where
  pub null : Bool
  pub value : Bool
  pub least : Option Datum
  pub greatest : Option Datum

-- these together
abbrev pub bounds : Bool → Bool → Option Datum → Option Datum → Bounds
bounds n v l g = record { null = n; value = v; least = l; greatest = g }

-- what no value is within
abbrev pub nothing : Bounds
nothing = bounds false false None None

-- what every value of the type is within
abbrev pub any_of : LogicalType → Bounds
any_of t = bounds (is_nullable t) true None None

-- what this value alone is within
abbrev pub exactly : Datum → Bounds
exactly v = bounds (is_null_datum v) (not (is_null_datum v)) (comparable v) (comparable v)

-- whether the first, where it is known, is at most the second
abbrev pub is_from : Option Datum → Datum → Bool
is_from None v = true
is_from (Some l) v = at_most l v

-- whether the first is at most the second, where that is known
abbrev pub is_up_to : Option Datum → Datum → Bool
is_up_to None v = true
is_up_to (Some g) v = at_most v g

-- whether there may be another value than null, and it may be this one
abbrev pub admits : Bounds → Datum → Bool
admits b v = b.value && (is_from b.least v && is_up_to b.greatest v)

-- whether the value is within the bounds
abbrev pub contains : Bounds → Datum → Bool
contains b v = if is_null_datum v then b.null else admits b v

-- the value is within the bounds
abbrev pub Contains : Bounds → Datum → Type 0
Contains b v = IsTrue (contains b v)

-- ---- the order of bounds

-- whether the second least value, where it is known, is at most the first
abbrev pub starts_within : Option Datum → Option Datum → Bool
starts_within l None = true
starts_within None (Some m) = false
starts_within (Some l) (Some m) = at_most m l

-- whether the first greatest value is at most the second, where that is known
abbrev pub ends_within : Option Datum → Option Datum → Bool
ends_within g None = true
ends_within None (Some h) = false
ends_within (Some g) (Some h) = at_most g h

-- whether what the first says is all that the second says, or more
abbrev pub is_within : Bounds → Bounds → Bool
is_within a b = (not a.null || b.null) && (not a.value || (b.value && (starts_within a.least b.least && ends_within a.greatest b.greatest)))

-- the first says all that the second says
abbrev pub IsWithin : Bounds → Bounds → Type 0
IsWithin a b = IsTrue (is_within a b)

-- ---- join and meet

-- the one of two that is known, or what f gives of both
abbrev pub known_or_both : (Datum → Datum → Option Datum) → Option Datum → Option Datum → Option Datum
known_or_both f None g = g
known_or_both f (Some l) None = Some l
known_or_both f (Some l) (Some m) = f l m

-- what f gives of both, if both are known
abbrev pub of_both : {A B : Type 0} → (A → A → Option B) → Option A → Option A → Option B
of_both f (Some l) (Some m) = f l m
of_both f _ _ = None

-- the least of two, where there may be a value of each of them
abbrev pub joined_end : (Datum → Datum → Option Datum) → Bool → Bool → Option Datum → Option Datum → Option Datum
joined_end f true true l m = of_both f l m
joined_end f true false l m = l
joined_end f false v l m = m

-- what is within the one or the other
abbrev pub join : Bounds → Bounds → Bounds
join a b = bounds (a.null || b.null) (a.value || b.value) (joined_end lower a.value b.value a.least b.least) (joined_end higher a.value b.value a.greatest b.greatest)

-- whether both can be the ends of one interval, where they are known
abbrev pub is_interval : Option Datum → Option Datum → Bool
is_interval (Some l) (Some g) = at_most l g
is_interval (Some l) None = at_most l l
is_interval None (Some g) = at_most g g
is_interval None None = true

-- whether the two can be compared, where they are known
abbrev pub are_comparable : Option Datum → Option Datum → Bool
are_comparable (Some l) (Some m) = at_most l m || at_most m l
are_comparable _ _ = true

-- the bounds, of no value but null where the least one isn't at most the greatest
abbrev pub proper : Bounds → Bounds
proper b = bounds b.null (b.value && is_interval b.least b.greatest) b.least b.greatest

-- what is within both
abbrev pub meet : Bounds → Bounds → Bounds
meet a b = proper (bounds (a.null && b.null)
    (a.value && (b.value && (are_comparable a.least b.least && are_comparable a.greatest b.greatest)))
    (known_or_both higher a.least b.least) (known_or_both lower a.greatest b.greatest))

-- there is no value, or its least one is at most its greatest
abbrev pub IsProper : Bounds → Type 0
IsProper b = IsTrue (not b.value || is_interval b.least b.greatest)
