-- Scalars as source text.
use Rattle.std.specs.Prelude.{ℕ, true, false, List, [], ◌∷◌, ◌++◌, codes}
use Rattle.std.specs.Fmt.{signed_decimal}
use Rattle.std.specs.List.{flat_map}
use Rattle.vx_floats.specs.Texts.{float_text}
use Rattle.vx_value.specs.Texts.{with_commas, ptype_text}
use Rattle.vx_value.specs.Types.{truth, number, text, octets, LogicalType, ty, atomic, list, fixed, struct, Fields, field, Datum, null, bool, int, float, utf8, bytes, list_of, struct_of, Data, no_datum, datum}
use Rattle.vx_value.specs.ValueTexts.{hex_byte}
use Rattle.vx_dtype.specs.Quotes.{between_quotes}
use Rattle.vx_source_types.specs.Names.{name_source}
use Rattle.vx_source_types.specs.TypeTexts.{type_source}
use Rattle.vx_source_types.specs.Untyped.{untyped_number}

-- the text of a number as it stands without its type: none that is read of a number has a quote in it
abbrev pub plain_source : Datum → List ℕ
plain_source (int i) = signed_decimal i
plain_source (utf8 s) = codes "\"" ++ (s ++ codes "\"")
plain_source _ = []

-- the text of a value, whose type follows or is known: numbers bear no suffix, and a struct has its type's names
abbrev mutual
  pub value_source : Datum → LogicalType → List ℕ
  value_source null t = codes "null"
  value_source (bool true) t = codes "true"
  value_source (bool false) t = codes "false"
  value_source (int i) t = plain_source (untyped_number i t)
  value_source (float x) t = plain_source (utf8 (float_text x))
  value_source (utf8 s) t = between_quotes 34 s
  value_source (bytes bs) t = codes "0x" ++ flat_map hex_byte bs
  value_source (list_of vs) (ty (list t) n) = codes "[" ++ (with_commas (item_sources vs t) ++ codes "]")
  value_source (list_of vs) (ty (fixed t k) n) = codes "[" ++ (with_commas (item_sources vs t) ++ codes "]")
  value_source (struct_of vs) (ty (struct fs) n) = codes "{" ++ (with_commas (row_sources vs fs) ++ codes "}")
  value_source _ _ = []

  -- each item of a list
  pub item_sources : Data → LogicalType → List (List ℕ)
  item_sources no_datum t = []
  item_sources (datum v vs) t = value_source v t ∷ item_sources vs t

  -- each value of a struct after its field's name
  pub row_sources : Data → Fields → List (List ℕ)
  row_sources (datum v vs) (field a t fs) = (name_source a ++ (codes ": " ++ value_source v t)) ∷ row_sources vs fs
  row_sources _ _ = []

-- what tells a value's type: nothing or a number's suffix where null is no value of a type without parts, else the type
abbrev pub type_behind : LogicalType → List ℕ
type_behind (ty (atomic (number p)) false) = ptype_text p
type_behind (ty (atomic truth) false) = []
type_behind (ty (atomic text) false) = []
type_behind (ty (atomic octets) false) = []
type_behind t = codes "::" ++ type_source t

-- the text of a value and its type
abbrev pub scalar_source : Datum → LogicalType → List ℕ
scalar_source v t = value_source v t ++ type_behind t
