-- Names and texts between quotes, and how engines read them back.
use Rattle.std.specs.Prelude.{ℕ, Bool, true, false, ◌==◌, ◌||◌, List, [], ◌∷◌, ◌++◌, Option, Some, None, if◌then◌else◌, codes, chars, encode_utf8_all}
use Rattle.std.specs.List.{list_any, flat_map}
use Rattle.vx_dtype.specs.Types.{Name}
use Rattle.vx_dtype.specs.Quotes.{between_quotes}
use Rattle.vx_source_types.specs.Tokens.{unquoted, with_byte}
use Rattle.vx_sql.specs.declared.dialect.Dialect.{Dialect}
use Rattle.vx_sql.specs.declared.dialect.Dialect.TheVariants.{Postgres, Sqlite, DuckDb, Spark, ClickHouse}
use Rattle.vx_sql.specs.declared.quotes.Quoting.{Quoting}
use Rattle.vx_sql.specs.declared.quotes.Quoting.TheVariants.{Doubled, Escaped, Backslashed}

-- ---- names: 34 is the double quote, 96 the backquote

-- the quote of names. SQLite reads a name between double quotes that no column has as a text
abbrev pub name_quote : Dialect → ℕ
name_quote Postgres = 34
name_quote Sqlite = 96
name_quote DuckDb = 34
name_quote Spark = 96
name_quote ClickHouse = 96

-- the name between quotes, a quote in it doubled
abbrev pub name_sql : Dialect → Name → List ℕ
name_sql d a = between_quotes (name_quote d) a

-- whether a backslash says something of the character behind it in the engine's names, and stands in this one
abbrev pub is_escaped : Dialect → Name → Bool
is_escaped Postgres a = false
is_escaped Sqlite a = false
is_escaped DuckDb a = false
is_escaped Spark a = false
is_escaped ClickHouse a = list_any (λ b. b == 92) a

-- the name, but where a backslash says something in it
abbrev pub plain_name : Dialect → Option (Name × List ℕ) → Option (Name × List ℕ)
plain_name d None = None
plain_name d (Some (a, rest)) = elim (is_escaped d a) [ true ↦ None | false ↦ Some (a, rest) ]

-- what the engine reads of a name behind its opening quote: the name, and what follows the closing quote
abbrev pub name_read : Dialect → List ℕ → Option (Name × List ℕ)
name_read d bs = plain_name d (unquoted (name_quote d) false bs)

-- ---- texts: 39 is the quote, 92 the backslash

-- PostgreSQL's plain texts mean a backslash one way or the other by a setting, so a text with one is of its other kind
abbrev pub quoting_of : Dialect → List ℕ → Quoting
quoting_of Postgres s = if list_any (λ b. b == 92) s then Escaped else Doubled
quoting_of Sqlite s = Doubled
quoting_of DuckDb s = Doubled
quoting_of Spark s = Backslashed
quoting_of ClickHouse s = Backslashed

-- what stands for a quote inside a text, and for a backslash
abbrev pub quote_inside : Quoting → List ℕ
quote_inside Doubled = 39 ∷ 39 ∷ []
quote_inside Escaped = 39 ∷ 39 ∷ []
quote_inside Backslashed = 92 ∷ 39 ∷ []

abbrev pub backslash_inside : Quoting → List ℕ
backslash_inside Doubled = 92 ∷ []
backslash_inside Escaped = 92 ∷ 92 ∷ []
backslash_inside Backslashed = 92 ∷ 92 ∷ []

-- what stands for a character inside a text
abbrev pub inside : Quoting → ℕ → List ℕ
inside q c = if c == 39 then quote_inside q else if c == 92 then backslash_inside q else c ∷ []

-- what begins a text
abbrev pub opening : Quoting → List ℕ
opening Doubled = codes "'"
opening Escaped = codes "E'"
opening Backslashed = codes "'"

-- characters as a text between quotes
abbrev pub quoted : Quoting → List ℕ → List ℕ
quoted q cs = opening q ++ (encode_utf8_all (flat_map (inside q) cs) ++ codes "'")

-- a text between quotes
abbrev pub text_sql : Dialect → List ℕ → List ℕ
text_sql d s = quoted (quoting_of d s) (chars s)

-- ---- how an engine reads a text: character by character, behind the opening quote

-- whether two quotes inside a text stand for one, and whether a backslash says something of the character behind it
abbrev pub doubles : Quoting → Bool
doubles Doubled = true
doubles Escaped = true
doubles Backslashed = false

abbrev pub escapes : Quoting → Bool
escapes Doubled = false
escapes Escaped = true
escapes Backslashed = true

-- where a reader is: at any character, behind a quote, or behind a backslash
pub data Reading : Type 0 where
  anywhere : Reading
  behind_quote : Reading
  behind_backslash : Reading

-- the text, and what follows the closing quote; none where no quote closes it, or a backslash says something else
abbrev pub text_read : Quoting → Reading → List ℕ → Option (List ℕ × List ℕ)
text_read q anywhere [] = None
text_read q anywhere (c ∷ cs) =
    elim (c == 39) [
      | true ↦ elim (doubles q) [ true ↦ text_read q behind_quote cs | false ↦ Some ([], cs) ]
      | false ↦
          elim (c == 92) [
            | true ↦ elim (escapes q) [ true ↦ text_read q behind_backslash cs | false ↦ with_byte c (text_read q anywhere cs) ]
            | false ↦ with_byte c (text_read q anywhere cs)
          ]
    ]
text_read q behind_quote [] = Some ([], [])
text_read q behind_quote (c ∷ cs) = elim (c == 39) [ true ↦ with_byte c (text_read q anywhere cs) | false ↦ Some ([], c ∷ cs) ]
text_read q behind_backslash [] = None
text_read q behind_backslash (c ∷ cs) = elim (c == 39 || c == 92) [ true ↦ with_byte c (text_read q anywhere cs) | false ↦ None ]
