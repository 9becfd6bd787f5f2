-- Bounds of what functions give of values within bounds.
use Rattle.std.specs.Prelude.{ℤ, pos, Bool, false, ◌&&◌, ◌||◌, List, [], ◌∷◌, Option, Some, None, if◌then◌else◌, option_map}
use Rattle.vx_floats.specs.declared.arithmetic.Arithmetic.{Arithmetic}
use Rattle.vx_value.specs.Types.{Datum, null, int}
use Rattle.vx_prune_bounds.specs.Bounds.{Bounds, bounds, nothing, exactly, join}
use Rattle.vx_prune_bounds.specs.Spans.{Side, Least, Greatest, Span, span_end}
use Rattle.vx_prune_bounds.specs.Truths.{Truths, truths, truths_in, may_fail}

-- the number that an end is, if it is a whole one
abbrev pub whole : Option Datum → Option ℤ
whole (Some (int i)) = Some i
whole _ = None

-- between which whole numbers a value within the bounds lies
abbrev pub span : Bounds → Span
span x = record { least = whole x.least; greatest = whole x.greatest }

-- the end of what is computed of two numbers, where it is known; of floating-point numbers it isn't, since infinity and -infinity give NaN, which is
-- behind every other one
abbrev pub arithmetic_end : Arithmetic → Side → Bounds → Bounds → Option Datum
arithmetic_end a s x y = option_map int (span_end a s (span x) (span y))

-- bounds of what is computed of two numbers
abbrev pub arithmetic_bounds : Arithmetic → Bounds → Bounds → Bounds
arithmetic_bounds a x y = bounds (x.null || y.null) (x.value && y.value) (arithmetic_end a Least x y) (arithmetic_end a Greatest x y)

-- these bounds where that may be, else what no value is within
abbrev pub only_if : Bool → Bounds → Bounds
only_if b x = if b then x else nothing

-- the same bounds, without null
abbrev pub not_null : Bounds → Bounds
not_null x = bounds false x.value x.least x.greatest

-- bounds of a value, or of its fill where it is null
abbrev pub fill_bounds : Bounds → Bounds → Bounds
fill_bounds x fill = join (not_null x) (only_if x.null fill)

-- bounds of the first where the mask is true, and else of the second
abbrev pub choice_bounds : Truths → Bounds → Bounds → Bounds
choice_bounds mask x y = join (only_if mask.yes x) (only_if (may_fail mask) y)

-- bounds of the value where the mask is true, and else of null
abbrev pub mask_bounds : Bounds → Truths → Bounds
mask_bounds x mask = choice_bounds mask x (exactly null)

-- bounds of a CASE of conditions and values in turn: of the value beside the first condition that is true, where one may be, else of ELSE, else null
abbrev pub case_bounds : List Bounds → Bounds
case_bounds [] = exactly null
case_bounds (e ∷ []) = e
case_bounds (c ∷ v ∷ rest) = choice_bounds (truths_in c) v (case_bounds rest)

-- whether it is null
abbrev pub null_truths : Bounds → Truths
null_truths x = truths false x.value x.null

-- bounds of a struct that is null where its only child is
abbrev pub shaped_as : Bounds → Bounds
shaped_as x = bounds x.null x.value None None

-- bounds of a length that is null where what is counted is: it is no less than 0
abbrev pub length_bounds : Bounds → Bounds
length_bounds x = bounds x.null x.value (Some (int (pos 0))) None
