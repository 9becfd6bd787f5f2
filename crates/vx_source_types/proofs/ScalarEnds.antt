-- No scalar goes on behind the end of its text.
use Rattle.std.proofs.Common.{◌≡◌, ℕ, List, [], ◌∷◌, Option, Some, None, Result, Ok, Err, refl}
use Rattle.vx_source_types.specs.Tokens.{end}
use Rattle.vx_source_types.specs.declared.expectation.Expected.{Expected}
use Rattle.vx_dtype.specs.Types.{LogicalType}
use Rattle.vx_value.specs.Columns.{Constant}
use Rattle.vx_source_types.specs.Reading.{Goes, more, done}
use Rattle.vx_source_types.specs.TypeReading.{TypeState, type_step}
use Rattle.vx_source_types.proofs.TypeEnds.{end_stops as type_stops}
use Rattle.vx_value.specs.Types.{Datum}
use Rattle.vx_source_types.specs.Literals.{plain_literal, typed_literal}
use Rattle.vx_source_types.specs.ScalarReading.{ScalarState, scalar_due, in_value, in_type, whole_scalar, ended, value_after, type_ended, type_after, scalar_step}
use Rattle.vx_source_types.specs.ValueReading.{ValueFrame, in_items, in_row, ValueMode, value_due, first_item, first_named, next_named, named_value, whole_value, whole_point, ValueState, Drafted, value_ends, value_next, value_step}
use Rattle.vx_dtype.specs.Types.{Name}

value_stops : (fs : List ValueFrame) (ns : List Name) (r : ℕ) (v : Datum) (u : ValueState) → ¬ (value_ends fs ns r v end ≡ Ok (more u))
value_stops [] ns r v u = λ e. (cc)
value_stops (in_items d ∷ fs) ns r v u = λ e. (cc)
value_stops (in_row d ∷ fs) ns r v u = λ e. (cc)

next_stops : (fs : List ValueFrame) (m : ValueMode) (ns : List Name) (r : ℕ) (u : ValueState) → ¬ (value_next fs m ns r end ≡ Ok (more u))
next_stops fs value_due ns r u = λ e. (cc)
next_stops fs (first_item d) ns r u = λ e. (cc)
next_stops fs (first_named d) ns r u = λ e. (cc)
next_stops fs (next_named d) ns r u = λ e. (cc)
next_stops fs (named_value d) ns r u = λ e. (cc)
next_stops fs (whole_value v) ns r u = value_stops fs ns r v u
next_stops fs (whole_point s) ns r u = λ e. (cc)

ended_stops : (o : Result Constant Expected) (u : ScalarState) → ¬ (ended o ≡ Ok (more u))
ended_stops (Ok c) u = λ e. (cc)
ended_stops (Err x) u = λ e. (cc)

after_value : (room : ℕ) (a : Result (Goes ValueState Drafted) Expected) (u : ScalarState) → ((s : ValueState) → ¬ (a ≡ Ok (more s))) → ¬ (value_after room end a ≡ Ok (more u))
after_value room (Ok (more s)) u h = absurd (h s refl)
after_value room (Ok (done d)) u h = ended_stops (plain_literal d) u
after_value room (Err x) u h = λ e. (cc)

typed_stops : (o : Option Constant) (u : ScalarState) → ¬ (type_ended o ≡ Ok (more u))
typed_stops (Some c) u = λ e. (cc)
typed_stops None u = λ e. (cc)

after_type : (d : Drafted) (a : Result (Goes TypeState LogicalType) Expected) (u : ScalarState) → ((s : TypeState) → ¬ (a ≡ Ok (more s))) → ¬ (type_after d a ≡ Ok (more u))
after_type d (Ok (more s)) u h = absurd (h s refl)
after_type d (Ok (done t)) u h = typed_stops (typed_literal d t) u
after_type d (Err x) u h = λ e. (cc)

pub end_stops : (room : ℕ) (s u : ScalarState) → ¬ (scalar_step room s end ≡ Ok (more u))
end_stops room scalar_due u = λ e. (cc)
end_stops room (in_value s) u = after_value room (value_step s end) u (λ t. next_stops s.frames s.mode s.names s.room t)
end_stops room (in_type d s) u = after_type d (type_step s end) u (λ t. type_stops s t)
end_stops room (whole_scalar c) u = λ e. (cc)
