-- Which values a text can say, and how deep they are nested.
use Rattle.std.specs.Prelude.{ℕ, ◌+◌, max}
use Rattle.std.specs.Str.{IsUtf8}
use Rattle.hex.specs.Hex.{IsBytes}
use Rattle.vx_value.specs.Types.{Datum, utf8, bytes, list_of, struct_of, Data, no_datum, datum}

-- how many brackets are open at most at one place of the value's text
abbrev mutual
  pub value_nesting : Datum → ℕ
  value_nesting (list_of vs) = data_nesting vs + 1
  value_nesting (struct_of vs) = data_nesting vs + 1
  value_nesting _ = 0

  pub data_nesting : Data → ℕ
  data_nesting no_datum = 0
  data_nesting (datum v vs) = max (value_nesting v) (data_nesting vs)

-- what each value of the program has: texts that are UTF-8, and bytes below 256
abbrev mutual
  pub IsSpelledValue : Datum → Type 0
  IsSpelledValue (utf8 s) = IsUtf8 s
  IsSpelledValue (bytes bs) = IsBytes bs
  IsSpelledValue (list_of vs) = AreSpelledValues vs
  IsSpelledValue (struct_of vs) = AreSpelledValues vs
  IsSpelledValue _ = Unit {0}

  pub AreSpelledValues : Data → Type 0
  AreSpelledValues no_datum = Unit {0}
  AreSpelledValues (datum v vs) = IsSpelledValue v × AreSpelledValues vs
