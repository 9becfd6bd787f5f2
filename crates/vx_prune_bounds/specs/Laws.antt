-- What holds of all bounds: their order, and what join and meet are in it.
use Rattle.std.specs.Prelude.{◌↔◌}
use Rattle.vx_value.specs.Types.{Datum}
use Rattle.vx_prune_bounds.specs.Bounds.{Bounds, exactly, Contains, IsWithin, join, meet, IsProper}

-- proper bounds say all that they say themselves, and what says all that others say says all that those say of third ones
abbrev pub BoundsAreOrdered : Type 0
BoundsAreOrdered = ((b : Bounds) → IsProper b → IsWithin b b) × ((a b c : Bounds) → IsWithin a b → IsWithin b c → IsWithin a c)

-- a value within bounds is within all that say less
abbrev pub WiderBoundsContainMore : Type 0
WiderBoundsContainMore = (a b : Bounds) (v : Datum) → IsWithin a b → Contains a v → Contains b v

-- a value is within bounds exactly where what it alone is within says all that they say
abbrev pub ValuesAreBounds : Type 0
ValuesAreBounds = (b : Bounds) (v : Datum) → Contains b v ↔ IsWithin (exactly v) b

-- the join is around both, and within all that is around both
abbrev pub JoinIsTheNarrowestAroundBoth : Type 0
JoinIsTheNarrowestAroundBoth = ((a b : Bounds) → IsProper a → IsWithin a (join a b)) × ((a b : Bounds) → IsProper b → IsWithin b (join a b))
    × ((a b c : Bounds) → IsWithin a c → IsWithin b c → IsWithin (join a b) c)

-- the meet is within both, and around all that is within both
abbrev pub MeetIsTheWidestWithinBoth : Type 0
MeetIsTheWidestWithinBoth = ((a b : Bounds) → IsWithin (meet a b) a) × ((a b : Bounds) → IsWithin (meet a b) b)
    × ((a b c : Bounds) → IsProper a → IsWithin a b → IsWithin a c → IsWithin a (meet b c))
