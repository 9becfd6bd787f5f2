-- The order of values that can be compared.
use Rattle.std.specs.Prelude.{Bool, false, ◌&&◌, not, Option, Some, None, if◌then◌else◌}
use Rattle.std.specs.Ordering.{is_le, nat_cmp, int_cmp, bool_cmp}
use Rattle.std.specs.Str.{is_utf8}
use Rattle.std.specs.Cmp.Lexicographic.{slice_cmp}
use Rattle.vx_floats.specs.Floats.{float_order, is_canonical}
use Rattle.vx_value.specs.Types.{Datum, bool, int, float, utf8, bytes}

-- whether both are truth values, whole numbers, floating-point numbers (each NaN the quiet one), texts (in UTF-8) or bytes, and the first comes
-- before the second or is equal to it
abbrev pub at_most : Datum → Datum → Bool
at_most (bool a) (bool b) = is_le (bool_cmp a b)
at_most (int i) (int j) = is_le (int_cmp i j)
at_most (float x) (float y) = is_canonical x && (is_canonical y && is_le (float_order x y))
at_most (utf8 s) (utf8 t) = is_utf8 s && (is_utf8 t && is_le (slice_cmp nat_cmp s t))
at_most (bytes s) (bytes t) = is_le (slice_cmp nat_cmp s t)
at_most _ _ = false

-- whether the first comes before the second
abbrev pub below : Datum → Datum → Bool
below v w = at_most v w && not (at_most w v)

-- the value, if it is one that can be compared
abbrev pub comparable : Datum → Option Datum
comparable v = if at_most v v then Some v else None

-- the one that comes first, if the two can be compared
abbrev pub lower : Datum → Datum → Option Datum
lower v w = if at_most v w then Some v else if at_most w v then Some w else None

-- the one that comes last, if the two can be compared
abbrev pub higher : Datum → Datum → Option Datum
higher v w = if at_most v w then Some w else if at_most w v then Some v else None
