-- Values as they stand in source text before their type is known: of a decimal, a floating-point number, a day and an
-- instant its text stands there.
use Rattle.std.specs.Prelude.{Bool, true, false, List, ℕ, ℤ, pos, ◌*ℤ◌, ◌^◌, Option, Some, None, if◌then◌else◌, nat_lt, unsigned_abs}
use Rattle.std.specs.Float.Ieee.{of_int}
use Rattle.std.specs.Int.{int_div_euclid}
use Rattle.std.specs.Option.{option_and_then, option_map}
use Rattle.vx_dtype.specs.declared.float_type.FloatType.{FloatType}
use Rattle.vx_floats.specs.Texts.{binary, float_read, float_text, number_of}
use Rattle.vx_floats.specs.declared.float.Float.{Float}
use Rattle.vx_literals.specs.Days.{Civil, civil_at, day_text, day_read}
use Rattle.vx_literals.specs.Decimals.{decimal_text, decimal_read}
use Rattle.vx_literals.specs.Instants.{instant_text, instant_read, units_a_day}
use Rattle.vx_value.specs.Fits.{fits_digits}
use Rattle.vx_value.specs.Types.{floating, decimals, date, timestamp, LogicalType, ty, atomic, list, fixed, struct, Fields, field, Datum, int, float, utf8, list_of, struct_of, Data, no_datum, datum}

-- the text of a number whose day has a year of four digits, and else the number
abbrev pub dated : List ℕ → ℤ → Option Civil → Datum
dated s i (Some c) = utf8 s
dated s i None = int i

-- a number of a type
abbrev pub untyped_number : ℤ → LogicalType → Datum
untyped_number i (ty (atomic (decimals p s)) n) = utf8 (decimal_text i s)
untyped_number i (ty (atomic date) n) = dated (day_text i) i (civil_at i)
untyped_number i (ty (atomic (timestamp u z)) n) = dated (instant_text u z i) i (civil_at (int_div_euclid i (pos (units_a_day u))))
untyped_number i t = int i

-- a value of a type
abbrev mutual
  pub untyped : Datum → LogicalType → Datum
  untyped (int i) t = untyped_number i t
  untyped (float x) t = utf8 (float_text x)
  untyped (list_of vs) (ty (list t) n) = list_of (untyped_items vs t)
  untyped (list_of vs) (ty (fixed t k) n) = list_of (untyped_items vs t)
  untyped (struct_of vs) (ty (struct fs) n) = struct_of (untyped_row vs fs)
  untyped v t = v

  -- the items of a list
  pub untyped_items : Data → LogicalType → Data
  untyped_items no_datum t = no_datum
  untyped_items (datum v vs) t = datum (untyped v t) (untyped_items vs t)

  -- the values of a struct
  pub untyped_row : Data → Fields → Data
  untyped_row (datum v vs) (field a t fs) = datum (untyped v t) (untyped_row vs fs)
  untyped_row vs fs = vs

-- ---- the other way

-- whether values of the type are texts before their type
abbrev pub has_texts : LogicalType → Bool
has_texts (ty (atomic (floating f)) n) = true
has_texts (ty (atomic (decimals p s)) n) = true
has_texts (ty (atomic date) n) = true
has_texts (ty (atomic (timestamp u z)) n) = true
has_texts t = false

-- the number that is read of a text, if it is one of that type's
abbrev pub text_read : List ℕ → LogicalType → Option Datum
text_read s (ty (atomic (floating f)) n) = option_map float (float_read f s)
text_read s (ty (atomic (decimals p k)) n) = option_map int (decimal_read k s)
text_read s (ty (atomic date) n) = option_map int (day_read s)
text_read s (ty (atomic (timestamp u z)) n) = option_map int (instant_read u z s)
text_read s t = Some (utf8 s)

-- the number of the format that is nearest to a whole number, an even one at a tie
abbrev pub nearest_float : FloatType → ℤ → Float
nearest_float f i = number_of f (of_int (binary f) i)

-- the same of one that is below 2 ^ 64, as each is that stands in a text
abbrev pub float_of_whole : FloatType → ℤ → Option Float
float_of_whole f i = if nat_lt (unsigned_abs i) (2 ^ 64) then Some (nearest_float f i) else None

-- the number that a whole number is before that type: of a type of floating-point numbers the nearest one, of a decimal's type
-- so many wholes, if they have at most 38 digits, else itself
abbrev pub number_read : ℤ → LogicalType → Option Datum
number_read i (ty (atomic (floating f)) n) = option_map float (float_of_whole f i)
number_read i (ty (atomic (decimals p s)) n) = if fits_digits (i *ℤ pos (10 ^ s)) 38 then Some (int (i *ℤ pos (10 ^ s))) else None
number_read i t = Some (int i)

-- whether values of the type have points
abbrev pub has_points : LogicalType → Bool
has_points (ty (atomic (floating f)) n) = true
has_points (ty (atomic (decimals p s)) n) = true
has_points t = false

-- the value that a number with a point is before that type: what its text is where values of the type have points, and else
-- none
abbrev pub point_read : List ℕ → LogicalType → Option Datum
point_read s t = if has_points t then text_read s t else None

-- the value that a type behind it makes of a value
abbrev mutual
  pub typed_value : Datum → LogicalType → Option Datum
  typed_value (int i) t = number_read i t
  typed_value (utf8 s) t = text_read s t
  typed_value (list_of vs) (ty (list t) n) = option_map list_of (typed_items vs t)
  typed_value (list_of vs) (ty (fixed t k) n) = option_map list_of (typed_items vs t)
  typed_value (struct_of vs) (ty (struct fs) n) = option_map struct_of (typed_row vs fs)
  typed_value v t = Some v

  -- each item of a list
  pub typed_items : Data → LogicalType → Option Data
  typed_items no_datum t = Some no_datum
  typed_items (datum v vs) t = option_and_then (λ w. option_map (datum w) (typed_items vs t)) (typed_value v t)

  -- each value of a struct
  pub typed_row : Data → Fields → Option Data
  typed_row (datum v vs) (field a t fs) = option_and_then (λ w. option_map (datum w) (typed_row vs fs)) (typed_value v t)
  typed_row vs fs = Some vs
