-- No type goes on behind the end of its text.
use Rattle.std.proofs.Common.{◌≡◌, ℕ, List, [], ◌∷◌, Ok}
use Rattle.vx_source_types.specs.Tokens.{end}
use Rattle.vx_source_types.specs.Reading.{more}
use Rattle.vx_dtype.specs.Types.{LogicalType}
use Rattle.vx_source_types.specs.TypeReading.{TypeFrame, in_list, in_fixed, in_struct, TypeMode, type_due, list_opens, fixed_opens, length_opens, length_due, length_closes, first_field, next_field, field_type, decimal_opens, precision_due, precision_ends, scale_due, scale_closes, timestamp_opens, unit_due, unit_ends, zone_due, zone_closes, unmarked, whole, TypeState, type_ends, type_next, type_step}

type_stops : (fs : List TypeFrame) (r : ℕ) (t : LogicalType) (u : TypeState) → ¬ (type_ends fs r t end ≡ Ok (more u))
type_stops [] r t u = λ e. (cc)
type_stops (in_list o ∷ fs) r t u = λ e. (cc)
type_stops (in_fixed o ∷ fs) r t u = λ e. (cc)
type_stops (in_struct d a ∷ fs) r t u = λ e. (cc)

next_stops : (fs : List TypeFrame) (m : TypeMode) (r : ℕ) (u : TypeState) → ¬ (type_next fs m r end ≡ Ok (more u))
next_stops fs type_due r u = λ e. (cc)
next_stops fs list_opens r u = λ e. (cc)
next_stops fs fixed_opens r u = λ e. (cc)
next_stops fs (length_opens t) r u = λ e. (cc)
next_stops fs (length_due t) r u = λ e. (cc)
next_stops fs (length_closes t k) r u = λ e. (cc)
next_stops fs (first_field d) r u = λ e. (cc)
next_stops fs (next_field d) r u = λ e. (cc)
next_stops fs (field_type d a) r u = λ e. (cc)
next_stops fs decimal_opens r u = λ e. (cc)
next_stops fs precision_due r u = λ e. (cc)
next_stops fs (precision_ends p) r u = λ e. (cc)
next_stops fs (scale_due p) r u = λ e. (cc)
next_stops fs (scale_closes p s) r u = λ e. (cc)
next_stops fs timestamp_opens r u = λ e. (cc)
next_stops fs unit_due r u = λ e. (cc)
next_stops fs (unit_ends k) r u = λ e. (cc)
next_stops fs (zone_due k) r u = λ e. (cc)
next_stops fs (zone_closes k z) r u = λ e. (cc)
next_stops fs (unmarked t) r u = type_stops fs r t u
next_stops fs (whole t) r u = type_stops fs r t u

pub end_stops : (s u : TypeState) → ¬ (type_step s end ≡ Ok (more u))
end_stops s u = next_stops s.frames s.mode s.room u
