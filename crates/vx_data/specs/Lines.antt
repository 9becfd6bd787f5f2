-- Rows as lines of JSON.
use Rattle.std.specs.Prelude.{ℕ, ℤ, ◌==◌, List, [], ◌∷◌, ◌++◌, if◌then◌else◌}
use Rattle.std.specs.List.{flat_map, list_any}
use Rattle.json.specs.Print.{print}
use Rattle.json.specs.Token.{Token, begin_object, end_object, begin_array, end_array, key, string, number, boolean}
use Rattle.json.specs.Token.{null as null_token}
use Rattle.vx_floats.specs.Texts.{float_text}
use Rattle.vx_floats.specs.declared.float.Float.{Float}
use Rattle.vx_value.specs.Types.{LogicalType, ty, list, fixed, struct, Fields, field, Datum, null, bool, int, float, utf8, bytes, list_of, struct_of, Data, no_datum, datum}
use Rattle.vx_data.specs.Cells.{hex_text}
use Rattle.vx_data.specs.Numbers.{is_dated, number_text}

-- the token of a number of a type: a string where it is a day of the calendar, or an instant of one
abbrev pub number_token : ℤ → LogicalType → Token
number_token i t = if is_dated i t then string (number_text i t) else number (number_text i t)

-- the token of a floating-point number: a string where its text has no point, as that of NaN, of an infinity, and of a number by its bits
abbrev pub float_token : Float → Token
float_token x = if list_any (λ b. b == 46) (float_text x) then number (float_text x) else string (float_text x)

-- the tokens of a value, which is read by its type: bytes are a string, and a struct's values stand under its fields' names
abbrev mutual
  pub value_tokens : Datum → LogicalType → List Token
  value_tokens null t = null_token ∷ []
  value_tokens (bool b) t = boolean b ∷ []
  value_tokens (int i) t = number_token i t ∷ []
  value_tokens (float x) t = float_token x ∷ []
  value_tokens (utf8 s) t = string s ∷ []
  value_tokens (bytes bs) t = string (hex_text bs) ∷ []
  value_tokens (list_of vs) (ty (list t) n) = begin_array ∷ (item_tokens vs t ++ end_array ∷ [])
  value_tokens (list_of vs) (ty (fixed t k) n) = begin_array ∷ (item_tokens vs t ++ end_array ∷ [])
  value_tokens (struct_of vs) (ty (struct fs) n) = begin_object ∷ (field_tokens vs fs ++ end_object ∷ [])
  value_tokens _ _ = []

  -- of each item of a list
  pub item_tokens : Data → LogicalType → List Token
  item_tokens no_datum t = []
  item_tokens (datum v vs) t = value_tokens v t ++ item_tokens vs t

  -- of each value of a struct, behind its field's name
  pub field_tokens : Data → Fields → List Token
  field_tokens (datum v vs) (field a t fs) = key a ∷ (value_tokens v t ++ field_tokens vs fs)
  field_tokens _ _ = []

-- the value on a line
abbrev pub json_line : LogicalType → Datum → List ℕ
json_line t v = print (value_tokens v t) ++ 10 ∷ []

-- a line for each row
abbrev pub json_lines : LogicalType → List Datum → List ℕ
json_lines t rows = flat_map (json_line t) rows
