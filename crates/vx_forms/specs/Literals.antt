-- Literals that are read of texts.
use Rattle.std.specs.Prelude.{ℕ, ◌==◌, ◌&&◌, Bool, false, List, length, count_by, nat_le, ℤ, Option, Some, None, Result, Err, if◌then◌else◌}
use Rattle.std.specs.List.{after_first}
use Rattle.vx_dtype.specs.Timestamps.{instants, zone_name}
use Rattle.vx_dtype.specs.declared.timestamp_type.TimestampType.{TimestampType}
use Rattle.vx_dtype.specs.declared.error.VortexError.{VortexError}
use Rattle.vx_dtype.specs.declared.error.VortexError.TheVariants.{RowMisfit}
use Rattle.vx_literals.specs.Days.{day_read}
use Rattle.vx_literals.specs.Decimals.{decimal_read}
use Rattle.vx_literals.specs.Digits.{is_digit}
use Rattle.vx_literals.specs.Instants.{instant_read}
use Rattle.vx_value.specs.Columns.{Constant, constant_or_misfit}
use Rattle.vx_value.specs.Types.{Atomic, decimals, date, ty, atomic, int}

-- the number that was read, as a value of that kind without null; or the refusal of row 0, where none was
abbrev pub number_or_misfit : Atomic → Option ℤ → Result Constant VortexError
number_or_misfit kind None = Err (RowMisfit 0)
number_or_misfit kind (Some i) = constant_or_misfit (ty (atomic kind) false) (int i)

-- the day of a text
abbrev pub day_said : List ℕ → Result Constant VortexError
day_said text = number_or_misfit date (day_read text)

-- the instant of a text, of that type
abbrev pub instant_said : TimestampType → List ℕ → Result Constant VortexError
instant_said t text = number_or_misfit (instants t) (instant_read t.unit (zone_name t) text)

-- how many digits a text has
abbrev pub digit_count : List ℕ → ℕ
digit_count text = count_by is_digit text

-- how many bytes of a text stand behind its first point
abbrev pub places : List ℕ → ℕ
places text = length (after_first (λ b. b == 46) text)

-- whether decimals may have so many digits, so many of them behind the point
abbrev pub is_decimal_type : ℕ → ℕ → Bool
is_decimal_type precision scale = nat_le 1 precision && nat_le precision 38 && nat_le scale precision

-- the decimal of a text, of the type of as many digits as it has, as many of them behind the point
abbrev pub decimal_said : List ℕ → Result Constant VortexError
decimal_said text =
    if is_decimal_type (digit_count text) (places text) then number_or_misfit (decimals (digit_count text) (places text)) (decimal_read (places text) text)
    else Err (RowMisfit 0)
