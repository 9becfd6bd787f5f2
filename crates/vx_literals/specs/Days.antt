-- Days of the calendar, and their texts.
use Rattle.std.specs.Prelude.{ℕ, zero, suc, ◌+◌, ◌-◌, ◌==◌, ◌&&◌, length, get_or, List, [], ◌∷◌, ◌++◌, Option, Some, None, ℤ, pos, negsuc, nat_le, nat_lt, codes, if◌then◌else◌}
use Rattle.std.specs.Fmt.{signed_decimal}
use Rattle.std.specs.List.{between}
use Rattle.jiff_core.specs.Calendar.{days_in_month, days_from_civil}
use Rattle.vx_literals.specs.Digits.{last_digits, number_of}

-- a day of the calendar
pub record Civil : Type 0 where
  pub year : ℕ
  pub month : ℕ
  pub day : ℕ

abbrev pub civil : ℕ → ℕ → ℕ → Civil
civil y m d = record { year = y; month = m; day = d }

-- the next day
abbrev pub tomorrow : Civil → Civil
tomorrow c =
    if nat_lt c.day (days_in_month (pos c.year) c.month) then civil c.year c.month (c.day + 1)
    else if nat_lt c.month 12 then civil c.year (c.month + 1) 1
    else civil (c.year + 1) 1 1

-- the day so many days behind the first of January of the year 1
unfoldable pub civil_behind : ℕ → Civil
civil_behind zero = civil 1 1 1
civil_behind (suc n) = tomorrow (civil_behind n)

-- the day of the calendar so many days behind the first of January 1970, in the years 1 to 9999
abbrev pub civil_at : ℤ → Option Civil
civil_at (pos n) = if nat_lt n 2932897 then Some (civil_behind (n + 719162)) else None
civil_at (negsuc n) = if nat_lt n 719162 then Some (civil_behind (719161 - n)) else None

-- the year by four digits, month and day by two
abbrev pub civil_text : Civil → List ℕ
civil_text c = last_digits 4 c.year ++ (codes "-" ++ (last_digits 2 c.month ++ (codes "-" ++ last_digits 2 c.day)))

-- a day, or its number where its year has no four digits
abbrev pub day_or_number : ℤ → Option Civil → List ℕ
day_or_number i (Some c) = civil_text c
day_or_number i None = signed_decimal i

abbrev pub day_text : ℤ → List ℕ
day_text i = day_or_number i (civil_at i)

-- the number of a day, if the calendar has it
abbrev pub day_number : ℕ → ℕ → ℕ → Option ℤ
day_number y m d =
    if nat_le 1 y && nat_le 1 m && nat_le m 12 && nat_le 1 d && nat_le d (days_in_month (pos y) m) then Some (days_from_civil (pos y) m d) else None

abbrev pub day_of_parts : Option ℕ → Option ℕ → Option ℕ → Option ℤ
day_of_parts (Some y) (Some m) (Some d) = day_number y m d
day_of_parts _ _ _ = None

-- the day of a text of ten bytes, as `2024-01-31`
abbrev pub day_read : List ℕ → Option ℤ
day_read bs =
    if length bs == 10 && get_or bs 4 0 == 45 && get_or bs 7 0 == 45 then day_of_parts (number_of (between 0 4 bs)) (number_of (between 5 7 bs)) (number_of (between 8 10 bs))
    else None
