-- Values in a notation: what notations have in common, over how each writes names, numbers and texts.
use Rattle.std.specs.Prelude.{ℕ, ℤ, true, false, List, [], ◌∷◌, ◌++◌, Some, None, codes}
use Rattle.std.specs.Fmt.{signed_decimal}
use Rattle.std.specs.List.{flat_map}
use Rattle.vx_floats.specs.Texts.{float_text}
use Rattle.vx_floats.specs.declared.float.Float.{Float}
use Rattle.vx_literals.specs.Days.{day_text}
use Rattle.vx_literals.specs.Decimals.{decimal_text}
use Rattle.vx_literals.specs.Instants.{instant_text}
use Rattle.vx_value.specs.Types.{Name, number, floating, decimals, date, timestamp, LogicalType, ty, atomic, items_type, struct_fields, Fields, field, Datum, null, bool, int, float, utf8, bytes, list_of, struct_of, Data, no_datum, datum}
use Rattle.vx_value.specs.Texts.{with_commas, ptype_text, float_type_text}
use Rattle.vx_value.specs.ValueTexts.{hex_byte}

-- the words of a notation, beside those of names: of a whole number and of a floating-point number of a type, and of a text
pub record ValueWords : Type 0 where
  pub numbered : ℤ → LogicalType → List ℕ
  pub floated : Float → LogicalType → List ℕ
  pub quoted : List ℕ → List ℕ

abbrev pub number_in : ValueWords → ℤ → LogicalType → List ℕ
number_in w = w.numbered

abbrev pub float_in : ValueWords → Float → LogicalType → List ℕ
float_in w = w.floated

abbrev pub quoted_in : ValueWords → List ℕ → List ℕ
quoted_in w = w.quoted

-- the text of a value, which is read by its type
abbrev mutual
  pub value_in : (Name → List ℕ) → ValueWords → Datum → LogicalType → List ℕ
  value_in named w null t = codes "null"
  value_in named w (bool true) t = codes "true"
  value_in named w (bool false) t = codes "false"
  value_in named w (int i) t = number_in w i t
  value_in named w (float x) t = float_in w x t
  value_in named w (utf8 s) t = quoted_in w s
  value_in named w (bytes bs) t = codes "0x" ++ flat_map hex_byte bs
  value_in named w (list_of vs) t = elim (items_type t) [ Some e ↦ codes "[" ++ (with_commas (items_in named w vs e) ++ codes "]") | None ↦ [] ]
  value_in named w (struct_of vs) t = elim (struct_fields t) [ Some fs ↦ codes "{" ++ (with_commas (row_in named w vs fs) ++ codes "}") | None ↦ [] ]

  -- each item of a list
  pub items_in : (Name → List ℕ) → ValueWords → Data → LogicalType → List (List ℕ)
  items_in named w no_datum t = []
  items_in named w (datum v vs) t = value_in named w v t ∷ items_in named w vs t

  -- each value of a struct after its field's name
  pub row_in : (Name → List ℕ) → ValueWords → Data → Fields → List (List ℕ)
  row_in named w (datum v vs) (field a t fs) = (named a ++ (codes ": " ++ value_in named w v t)) ∷ row_in named w vs fs
  row_in named w _ _ = []

-- the values of a struct, between braces
abbrev pub struct_in : (Name → List ℕ) → ValueWords → Data → Fields → List ℕ
struct_in named w vs fs = codes "{" ++ (with_commas (row_in named w vs fs) ++ codes "}")

-- the items of a list, between brackets
abbrev pub list_in : (Name → List ℕ) → ValueWords → Data → LogicalType → List ℕ
list_in named w vs t = codes "[" ++ (with_commas (items_in named w vs t) ++ codes "]")

-- those of values as they are shown: a number has its type behind it
abbrev pub shown_number : ℤ → LogicalType → List ℕ
shown_number i (ty (atomic (number p)) n) = signed_decimal i ++ ptype_text p
shown_number i (ty (atomic (decimals p s)) n) = decimal_text i s
shown_number i (ty (atomic date) n) = day_text i
shown_number i (ty (atomic (timestamp u z)) n) = instant_text u z i
shown_number _ _ = []

abbrev pub shown_float : Float → LogicalType → List ℕ
shown_float x (ty (atomic (floating f)) n) = float_text x ++ float_type_text f
shown_float _ _ = []

abbrev pub shown_words : ValueWords
shown_words = record { numbered = shown_number; floated = shown_float; quoted = λ s. codes "\"" ++ (s ++ codes "\"") }
