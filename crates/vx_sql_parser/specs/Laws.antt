-- What is read back of names, texts, numbers, types, days, instants, decimals and floating-point numbers that are written for an engine.
use Rattle.std.specs.Prelude.{◌≡◌, ◌<◌, ◌≤◌, ◌^◌, ℕ, ℤ, pos, unsigned_abs, true, false, ◌==◌, List, [], ◌++◌, Option, Some, Ok, IsSome, option_map, IsUtf8, codes}
use Rattle.std.specs.Fmt.{decimal}
use Rattle.std.specs.Int.{int_div_euclid}
use Rattle.std.specs.Option.{is_some}
use Rattle.vx_dtype.specs.Quotes.{between_quotes}
use Rattle.vx_dtype.specs.Texts.{atomic_text, float_type_text}
use Rattle.vx_dtype.specs.Types.{Name, Atomic, timestamp}
use Rattle.vx_dtype.specs.declared.float_type.FloatType.{FloatType}
use Rattle.vx_dtype.specs.declared.timestamp_type.TimeUnit.{TimeUnit}
use Rattle.vx_dtype.specs.declared.dtype.PType.{PType}
use Rattle.vx_dtype.specs.declared.dtype.PType.TheVariants.{U8, U16, U32, U64, I8, I16, I32, I64}
use Rattle.vx_source_types.specs.Characters.{is_word}
use Rattle.vx_source_types.specs.Tokens.{next, has_point, quoted, number, text}
use Rattle.vx_floats.specs.declared.float.Float.{Float}
use Rattle.vx_floats.specs.Floats.{format_of}
use Rattle.vx_floats.specs.Texts.{float_text, has_value_text}
use Rattle.vx_sql.specs.declared.dialect.Dialect.{Dialect}
use Rattle.vx_literals.specs.Days.{civil_at, day_text}
use Rattle.vx_literals.specs.Decimals.{decimal_text}
use Rattle.vx_literals.specs.Instants.{instant_text, units_a_day}
use Rattle.vx_sql.specs.Dialects.{postgres_word, duckdb_word, clickhouse_word, float_word, instant_word, instant_type, has_days, has_decimals, has_floats}
use Rattle.vx_sql.specs.Literals.{day_sql, decimal_sql, float_sql, instant_sql}
use Rattle.vx_sql.specs.declared.dialect.Dialect.TheVariants.{Postgres, DuckDb, ClickHouse}
use Rattle.vx_sql.specs.Quotes.{name_quote, name_sql, is_escaped, text_sql}
use Rattle.vx_sql_parser.specs.SqlTokens.{Taken, taken_at, sql_tokens}
use Rattle.vx_sql_parser.specs.Types.{type_named}
use Rattle.vx_sql_parser.specs.CastTypes.{decimals, zone, type_source, type_at}
use Rattle.vx_sql_parser.specs.Values.{days, text_of}
use Rattle.vx_sql_parser.specs.Rules.{sql_source}

-- a name as `vx_sql` writes it, which refuses one that says more than its characters, is the first token, whole, whatever follows but another quote
abbrev pub WrittenNamesAreRead : Type 0
WrittenNamesAreRead = (d : Dialect) (a : Name) (rest : List ℕ) → IsUtf8 a → is_escaped d a ≡ false → (next rest == name_quote d) ≡ false
    → taken_at d (name_sql d a ++ rest) ≡ (let t : Taken = (Some (Ok (quoted a)), rest) in t)

-- so is a text
abbrev pub WrittenTextsAreRead : Type 0
WrittenTextsAreRead = (d : Dialect) (s rest : List ℕ) → IsUtf8 s → (next rest == 39) ≡ false
    → taken_at d (text_sql d s ++ rest) ≡ (let t : Taken = (Some (Ok (text s)), rest) in t)

-- so are the digits of a number, before what no word goes on with, nor a point and a digit
abbrev pub WrittenNumbersAreRead : Type 0
WrittenNumbersAreRead = (d : Dialect) (n : ℕ) (rest : List ℕ) → n < 2 ^ 64 → is_word (next rest) ≡ false → has_point rest ≡ false
    → taken_at d (decimal n ++ rest) ≡ (let t : Taken = (Some (Ok (number false (Some n) [])), rest) in t)

-- the type of numbers that is read of PostgreSQL's word for one: the one that has all of its numbers
abbrev pub in_postgres : PType → List ℕ
in_postgres U8 = codes "i16"
in_postgres U16 = codes "i32"
in_postgres U32 = codes "i64"
in_postgres U64 = codes "u64"
in_postgres I8 = codes "i16"
in_postgres I16 = codes "i16"
in_postgres I32 = codes "i32"
in_postgres I64 = codes "i64"

-- DuckDB and ClickHouse have a word for each
abbrev pub in_duckdb : PType → List ℕ
in_duckdb U8 = codes "u8"
in_duckdb U16 = codes "u16"
in_duckdb U32 = codes "u32"
in_duckdb U64 = codes "u64"
in_duckdb I8 = codes "i8"
in_duckdb I16 = codes "i16"
in_duckdb I32 = codes "i32"
in_duckdb I64 = codes "i64"

-- the words that `vx_sql` writes for the types of numbers are read
abbrev pub WrittenTypesAreRead : Type 0
WrittenTypesAreRead = (p : PType) → (type_named Postgres (postgres_word p) ≡ Some (in_postgres p)) × (type_named DuckDb (duckdb_word p) ≡ Some (in_duckdb p)) × (type_named ClickHouse (clickhouse_word p) ≡ Some (in_duckdb p))

-- so are those for the types of floating-point numbers, in an engine that has ours
abbrev pub WrittenFloatTypesAreRead : Type 0
WrittenFloatTypesAreRead = (d : Dialect) (f : FloatType) → has_floats d ≡ true → option_map type_source (type_at d (sql_tokens d 0 (float_word d f)) 0) ≡ Some (float_type_text f)

-- the type of instants that is read of an engine's for them: of those with a zone the one in UTC
abbrev pub instants_read : TimeUnit → Option Name → Atomic
instants_read u z = timestamp u (zone (is_some z))

-- what `vx_sql` writes for the types of instants is read
abbrev pub WrittenInstantTypesAreRead : Type 0
WrittenInstantTypesAreRead = (d : Dialect) (u : TimeUnit) (z : Option Name) → IsSome (instant_word d u z)
    → option_map type_source (type_at d (sql_tokens d 0 (instant_type d u z)) 0) ≡ Some (atomic_text (instants_read u z))

-- a day as `vx_sql` writes it is read as its text before the type, which is that day
abbrev pub WrittenDaysAreRead : Type 0
WrittenDaysAreRead = (d : Dialect) (i : ℤ) → has_days d ≡ true → IsSome (civil_at i) → sql_source d (day_sql i) ≡ Ok (text_of days (day_text i) ++ codes " ")

-- so is a decimal
abbrev pub WrittenDecimalsAreRead : Type 0
WrittenDecimalsAreRead = (d : Dialect) (p s : ℕ) (i : ℤ) → has_decimals d ≡ true → p ≤ 38 → s ≤ 38 → unsigned_abs i < 10 ^ 38
    → sql_source d (decimal_sql d p s i) ≡ Ok (text_of (decimals p s) (decimal_text i s) ++ codes " ")

-- so is a floating-point number that has a text of its value
abbrev pub WrittenFloatsAreRead : Type 0
WrittenFloatsAreRead = (d : Dialect) (x : Float) → has_floats d ≡ true → has_value_text x ≡ true
    → sql_source d (float_sql d (format_of x) x) ≡ Ok ((between_quotes 34 (float_text x) ++ (codes "::" ++ float_type_text (format_of x))) ++ codes " ")

-- so is an instant
abbrev pub WrittenInstantsAreRead : Type 0
WrittenInstantsAreRead = (d : Dialect) (u : TimeUnit) (z : Option Name) (i : ℤ) → IsSome (instant_word d u z) → IsSome (civil_at (int_div_euclid i (pos (units_a_day u))))
    → sql_source d (instant_sql d u z i) ≡ Ok ((between_quotes 34 (instant_text u z i) ++ (codes "::" ++ atomic_text (instants_read u z))) ++ codes " ")
