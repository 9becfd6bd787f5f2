-- Numbers of types as texts.
use Rattle.std.specs.Prelude.{ℕ, ℤ, pos, List, Bool, false, Option, None, is_some}
use Rattle.std.specs.Fmt.{signed_decimal}
use Rattle.std.specs.Int.{int_div_euclid}
use Rattle.vx_literals.specs.Days.{civil_at, day_text, day_read}
use Rattle.vx_literals.specs.Decimals.{decimal_text, decimal_read}
use Rattle.vx_literals.specs.Instants.{instant_text, instant_read, units_a_day}
use Rattle.vx_value.specs.Types.{LogicalType, ty, atomic, decimals, date, timestamp}

-- the text of a number of a type: a decimal, a day and an instant have their own, and other numbers have their digits
abbrev pub number_text : ℤ → LogicalType → List ℕ
number_text i (ty (atomic (decimals p s)) n) = decimal_text i s
number_text i (ty (atomic date) n) = day_text i
number_text i (ty (atomic (timestamp u z)) n) = instant_text u z i
number_text i t = signed_decimal i

-- whether the number is a day or an instant whose text has its day of the calendar
abbrev pub is_dated : ℤ → LogicalType → Bool
is_dated i (ty (atomic date) n) = is_some (civil_at i)
is_dated i (ty (atomic (timestamp u z)) n) = is_some (civil_at (int_div_euclid i (pos (units_a_day u))))
is_dated i t = false

-- the number that a text says by a type of decimals, days or instants
abbrev pub number_said : List ℕ → LogicalType → Option ℤ
number_said s (ty (atomic (decimals p k)) n) = decimal_read k s
number_said s (ty (atomic date) n) = day_read s
number_said s (ty (atomic (timestamp u z)) n) = instant_read u z s
number_said s t = None
