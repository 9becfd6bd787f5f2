-- The text of a value of a type, and of a column.
use Rattle.std.specs.Prelude.{ℕ, true, false, List, [], ◌∷◌, ◌++◌, codes, ◌/◌, ◌%◌}
use Rattle.std.specs.Fmt.{signed_decimal, digit_glyph}
use Rattle.std.specs.List.{flat_map}
use Rattle.vx_floats.specs.Texts.{float_text}
use Rattle.vx_literals.specs.Days.{day_text}
use Rattle.vx_literals.specs.Decimals.{decimal_text}
use Rattle.vx_literals.specs.Instants.{instant_text}
use Rattle.vx_value.specs.Types.{number, floating, decimals, date, timestamp, LogicalType, ty, atomic, list, fixed, struct, Fields, field, Datum, null, bool, int, float, utf8, bytes, list_of, struct_of, Data, no_datum, datum}
use Rattle.vx_value.specs.Fields.{data_of}
use Rattle.vx_value.specs.Texts.{with_commas, ptype_text, float_type_text}

-- two digits a byte
abbrev pub hex_byte : ℕ → List ℕ
hex_byte b = digit_glyph false (b / 16) ∷ digit_glyph false (b % 16) ∷ []

-- the text of a value, which is read by its type
abbrev mutual
  pub value_text : Datum → LogicalType → List ℕ
  value_text null t = codes "null"
  value_text (bool true) t = codes "true"
  value_text (bool false) t = codes "false"
  value_text (int i) (ty (atomic (number p)) n) = signed_decimal i ++ ptype_text p
  value_text (float x) (ty (atomic (floating f)) n) = float_text x ++ float_type_text f
  value_text (int i) (ty (atomic (decimals p s)) n) = decimal_text i s
  value_text (int i) (ty (atomic date) n) = day_text i
  value_text (int i) (ty (atomic (timestamp u z)) n) = instant_text u z i
  value_text (utf8 s) t = codes "\"" ++ (s ++ codes "\"")
  value_text (bytes bs) t = codes "0x" ++ flat_map hex_byte bs
  value_text (list_of vs) (ty (list t) n) = codes "[" ++ (with_commas (item_texts vs t) ++ codes "]")
  value_text (list_of vs) (ty (fixed t k) n) = codes "[" ++ (with_commas (item_texts vs t) ++ codes "]")
  value_text (struct_of vs) (ty (struct fs) n) = codes "{" ++ (with_commas (row_texts vs fs) ++ codes "}")
  value_text _ _ = []

  -- each item of a list
  pub item_texts : Data → LogicalType → List (List ℕ)
  item_texts no_datum t = []
  item_texts (datum v vs) t = value_text v t ∷ item_texts vs t

  -- each value of a struct after its field's name
  pub row_texts : Data → Fields → List (List ℕ)
  row_texts (datum v vs) (field a t fs) = (a ++ (codes ": " ++ value_text v t)) ∷ row_texts vs fs
  row_texts _ _ = []

-- the items of a list, between brackets
abbrev pub list_text : Data → LogicalType → List ℕ
list_text vs t = codes "[" ++ (with_commas (item_texts vs t) ++ codes "]")

-- the rows of a column, as a list
abbrev pub column_text : List Datum → LogicalType → List ℕ
column_text rows t = list_text (data_of rows) t
