-- Instants as texts.
use Rattle.std.specs.Prelude.{ℕ, zero, suc, ◌+◌, ◌-◌, ◌*◌, ◌/◌, ◌%◌, ◌^◌, ◌==◌, ◌&&◌, ◌||◌, Bool, true, false, List, [], ◌∷◌, ◌++◌, length, take, drop, get_or, Option, Some, None, ℤ, pos, neg_ℤ, unsigned_abs, ◌+ℤ◌, ◌-ℤ◌, ◌*ℤ◌, nat_le, nat_lt, codes, if◌then◌else◌}
use Rattle.std.specs.Fmt.{signed_decimal}
use Rattle.std.specs.List.{between}
use Rattle.std.specs.Int.{int_div_euclid, int_rem_euclid}
use Rattle.vx_dtype.specs.declared.timestamp_type.TimeUnit.{TimeUnit}
use Rattle.vx_dtype.specs.declared.timestamp_type.TimeUnit.TheVariants.{Seconds, Milliseconds, Microseconds, Nanoseconds}
use Rattle.vx_dtype.specs.Types.{Name}
use Rattle.vx_literals.specs.Digits.{digits_in_front, last_digits, number_of}
use Rattle.vx_literals.specs.Decimals.{units_of}
use Rattle.vx_literals.specs.Days.{Civil, civil_at, civil_text, day_read}

-- how many digits behind the point of a second a unit is
abbrev pub unit_places : TimeUnit → ℕ
unit_places Seconds = 0
unit_places Milliseconds = 3
unit_places Microseconds = 6
unit_places Nanoseconds = 9

-- the units of a second, and of a day
abbrev pub units_a_second : TimeUnit → ℕ
units_a_second u = 10 ^ unit_places u

abbrev pub units_a_day : TimeUnit → ℕ
units_a_day u = 86400 * units_a_second u

-- ---- written

-- the part of a second, where there is one
abbrev pub part_text : TimeUnit → ℕ → List ℕ
part_text u k = if k % units_a_second u == 0 then [] else codes "." ++ last_digits (unit_places u) k

-- the hour, the minute and the second of a day, so many units behind its beginning
abbrev pub time_text : TimeUnit → ℕ → List ℕ
time_text u k =
    last_digits 2 (k / units_a_second u / 3600)
    ++ (codes ":" ++ (last_digits 2 (k / units_a_second u / 60 % 60) ++ (codes ":" ++ (last_digits 2 (k / units_a_second u % 60) ++ part_text u k))))

-- the mark of an instant, which a time on a clock has not
abbrev pub zone_mark : Option Name → List ℕ
zone_mark None = []
zone_mark (Some a) = codes "Z"

-- the instant so many units behind the beginning of a day, as RFC 3339 has it
abbrev pub moment_text : TimeUnit → Option Name → ℕ → Civil → List ℕ
moment_text u z k c = civil_text c ++ (codes "T" ++ (time_text u k ++ zone_mark z))

-- an instant, or its number where its year has no four digits
abbrev pub instant_or_number : TimeUnit → Option Name → ℤ → Option Civil → List ℕ
instant_or_number u z i (Some c) = moment_text u z (unsigned_abs (int_rem_euclid i (pos (units_a_day u)))) c
instant_or_number u z i None = signed_decimal i

abbrev pub instant_text : TimeUnit → Option Name → ℤ → List ℕ
instant_text u z i = instant_or_number u z i (civil_at (int_div_euclid i (pos (units_a_day u))))

-- ---- read

-- the second of a day
abbrev pub second_of : ℕ → ℕ → ℕ → Option ℕ
second_of h m s = if nat_lt h 24 && nat_lt m 60 && nat_lt s 60 then Some (3600 * h + 60 * m + s) else None

abbrev pub second_of_parts : Option ℕ → Option ℕ → Option ℕ → Option ℕ
second_of_parts (Some h) (Some m) (Some s) = second_of h m s
second_of_parts _ _ _ = None

-- the second of a text of eight bytes, as `10:15:30`
abbrev pub second_read : List ℕ → Option ℕ
second_read bs =
    if length bs == 8 && get_or bs 2 0 == 58 && get_or bs 5 0 == 58 then second_of_parts (number_of (between 0 2 bs)) (number_of (between 3 5 bs)) (number_of (between 6 8 bs))
    else None

-- the seconds of hours and minutes, as `+02:00`, to the east or the west
abbrev pub turned : Bool → Option ℕ → Option ℤ
turned west None = None
turned west (Some s) = Some (if west then neg_ℤ (pos s) else pos s)

abbrev pub clock_read : List ℕ → Option ℤ
clock_read bs =
    if length bs == 6 && (get_or bs 0 0 == 43 || get_or bs 0 0 == 45) && get_or bs 3 0 == 58
    then turned (get_or bs 0 0 == 45) (second_of_parts (number_of (between 1 3 bs)) (number_of (between 4 6 bs)) (Some 0))
    else None

-- whether the text is `Z`
abbrev pub is_zulu : List ℕ → Bool
is_zulu bs = length bs == 1 && (get_or bs 0 0 == 90 || get_or bs 0 0 == 122)

-- the offset of what ends a text: `Z` or hours and minutes of an instant, and nothing of a time on a clock
abbrev pub offset_read : Option Name → List ℕ → Option ℤ
offset_read None bs = if length bs == 0 then Some (pos 0) else None
offset_read (Some z) bs = if is_zulu bs then Some (pos 0) else clock_read bs

-- whether the byte may stand between a day and a time: `T`, `t` or a blank
abbrev pub is_separator : ℕ → Bool
is_separator b = (b == 84) || (b == 116) || (b == 32)

-- the units of the digits behind the point of a second, if there are any: those beyond the unit are zeros
abbrev pub part_units : TimeUnit → List ℕ → Option ℕ
part_units u ds = if length ds == 0 then None else units_of (unit_places u) [] ds

-- the units from the first of January 1970 to that part of that second of the day, at an offset
abbrev pub instant_of : TimeUnit → ℤ → ℕ → ℕ → ℤ → ℤ
instant_of u day second part offset = (day *ℤ pos 86400 +ℤ pos second -ℤ offset) *ℤ pos (units_a_second u) +ℤ pos part

abbrev pub instant_of_parts : TimeUnit → Option ℤ → Option ℕ → Option ℕ → Option ℤ → Option ℤ
instant_of_parts u (Some day) (Some second) (Some part) (Some offset) = Some (instant_of u day second part offset)
instant_of_parts _ _ _ _ _ = None

-- a day and a second of it, and the part of a second with so many digits behind a point, and what is behind them
abbrev pub parts_read : TimeUnit → Option Name → Option ℤ → Option ℕ → List ℕ → ℕ → Option ℤ
parts_read u z day second bs k = instant_of_parts u day second (part_units u (take k bs)) (offset_read z (drop k bs))

-- a day and a second of it, and what is behind them
abbrev pub moment_read : TimeUnit → Option Name → Option ℤ → Option ℕ → List ℕ → Option ℤ
moment_read u z day second bs =
    if get_or bs 0 0 == 46 then parts_read u z day second (drop 1 bs) (digits_in_front (drop 1 bs))
    else instant_of_parts u day second (Some 0) (offset_read z bs)

-- the instant of a text as RFC 3339 has it, with `Z` or an offset where the type has a zone, and with none where it has not
abbrev pub instant_read : TimeUnit → Option Name → List ℕ → Option ℤ
instant_read u z bs =
    if nat_le 19 (length bs) && is_separator (get_or bs 10 0) then moment_read u z (day_read (between 0 10 bs)) (second_read (between 11 19 bs)) (drop 19 bs)
    else None
