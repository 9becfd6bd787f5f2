-- The types of casts.
use Rattle.std.specs.Prelude.{ℕ, ◌+◌, ◌&&◌, ◌||◌, ◌==◌, Bool, true, false, List, [], ◌∷◌, ◌++◌, Option, Some, None, option_map, if◌then◌else◌, codes}
use Rattle.std.specs.Fmt.{decimal}
use Rattle.std.specs.Option.{option_or}
use Rattle.vx_dtype.specs.declared.timestamp_type.TimeUnit.{TimeUnit}
use Rattle.vx_dtype.specs.declared.timestamp_type.TimeUnit.TheVariants.{Seconds, Milliseconds, Microseconds, Nanoseconds}
use Rattle.vx_dtype.specs.Texts.{atomic_text}
use Rattle.vx_dtype.specs.Types.{Name, timestamp}
use Rattle.vx_source_types.specs.Names.{same_word}
use Rattle.vx_source_types.specs.Tokens.{Lexeme, number}
use Rattle.vx_sql.specs.declared.dialect.Dialect.{Dialect}
use Rattle.vx_sql.specs.declared.dialect.Dialect.TheVariants.{Postgres, Sqlite, DuckDb, Spark, ClickHouse}
use Rattle.vx_sql.specs.Dialects.{has_decimals}
use Rattle.vx_sql_parser.specs.SqlTokens.{SqlLexeme}
use Rattle.vx_sql_parser.specs.Words.{is_one_of}
use Rattle.vx_sql_parser.specs.Types.{type_named}
use Rattle.vx_sql_parser.specs.Ahead.{lexeme_at, opens, closes, is_comma, sign_at, word_at, is_word_at}

-- a type that a word says, as source text has it; floating-point numbers of 64 bits, which two words say; decimals of so many digits,
-- so many of them behind the point; or instants in that unit, in UTC or without a zone, whose unit is said by a bracket or by the word
pub data CastType : Type 0 where
  named : List ℕ → CastType
  double_precision : CastType
  decimals : ℕ → ℕ → CastType
  instants : TimeUnit → Bool → Bool → CastType

-- the zone in which instants with one are read
abbrev pub zone : Bool → Option Name
zone true = Some (codes "UTC")
zone false = None

abbrev pub type_source : CastType → List ℕ
type_source (named t) = t
type_source double_precision = codes "f64"
type_source (decimals p s) = codes "decimal(" ++ (decimal p ++ (codes ", " ++ (decimal s ++ codes ")")))
type_source (instants u zoned sized) = atomic_text (timestamp u (zone zoned))

-- how many tokens say it
abbrev pub type_len : CastType → ℕ
type_len (named t) = 1
type_len double_precision = 2
type_len (decimals p s) = 6
type_len (instants u zoned sized) = if sized then 4 else 1

-- the unit that a word for instants without a zone says, and whether it is the one for those with a zone, which are in microseconds
abbrev pub clock_unit : Dialect → List ℕ → Option TimeUnit
clock_unit Postgres a = if same_word a (codes "timestamp") then Some Microseconds else None
clock_unit Sqlite a = None
clock_unit DuckDb a =
    if same_word a (codes "timestamp") then Some Microseconds else (
    if same_word a (codes "timestamp_s") then Some Seconds else (
    if same_word a (codes "timestamp_ms") then Some Milliseconds else (
    if same_word a (codes "timestamp_ns") then Some Nanoseconds else None)))
clock_unit Spark a = if is_one_of (codes "timestamp" ∷ codes "timestamp_ntz" ∷ []) a then Some Microseconds else None
clock_unit ClickHouse a = None

abbrev pub has_zone : Dialect → List ℕ → Bool
has_zone Postgres a = same_word a (codes "timestamptz")
has_zone Sqlite a = false
has_zone DuckDb a = same_word a (codes "timestamptz")
has_zone Spark a = same_word a (codes "timestamp_ltz")
has_zone ClickHouse a = false

-- the instants that a word says
abbrev pub instants_named : Dialect → List ℕ → Option CastType
instants_named d a = if has_zone d a then Some (instants Microseconds true false) else option_map (λ u. instants u false false) (clock_unit d a)

-- the type that a word is
abbrev pub word_type : Dialect → Option (List ℕ) → Option CastType
word_type d None = None
word_type d (Some a) = option_or (instants_named d a) (option_map named (type_named d a))

-- whether the word is one for decimals, in an engine that has them
abbrev pub is_decimal : Dialect → Option (List ℕ) → Bool
is_decimal d None = false
is_decimal d (Some a) = has_decimals d && is_one_of (codes "numeric" ∷ codes "decimal" ∷ []) a

-- a number of digits, which has no sign
abbrev pub count_in : Option Lexeme → Option ℕ
count_in (Some (number false (Some n) s)) = Some n
count_in _ = None

abbrev pub decimals_by : Option ℕ → Option ℕ → Option CastType
decimals_by (Some p) (Some s) = Some (decimals p s)
decimals_by _ _ = None

-- decimals whose two numbers stand in the bracket at that place
abbrev pub decimals_at : List SqlLexeme → ℕ → Option CastType
decimals_at xs i = if is_comma (sign_at xs (i + 2)) && closes (sign_at xs (i + 4)) then decimals_by (count_in (lexeme_at xs (i + 1))) (count_in (lexeme_at xs (i + 3))) else None

-- whether a word for PostgreSQL's instants stands there before a bracket
abbrev pub says_instants : List SqlLexeme → ℕ → Bool
says_instants xs i = is_word_at xs i (codes "timestamp") || is_word_at xs i (codes "timestamptz")

abbrev pub is_sized : Dialect → List SqlLexeme → ℕ → Bool
is_sized Postgres xs i = says_instants xs i && opens (sign_at xs (i + 1))
is_sized Sqlite xs i = false
is_sized DuckDb xs i = false
is_sized Spark xs i = false
is_sized ClickHouse xs i = false

-- the unit of so many digits behind the point of a second
abbrev pub unit_of : ℕ → Option TimeUnit
unit_of n = if n == 0 then Some Seconds else (if n == 3 then Some Milliseconds else (if n == 6 then Some Microseconds else None))

abbrev pub unit_in : Option ℕ → Option TimeUnit
unit_in None = None
unit_in (Some n) = unit_of n

-- instants of as many digits as stand in the bracket behind the word at that place
abbrev pub instants_at : List SqlLexeme → ℕ → Option CastType
instants_at xs i =
    if closes (sign_at xs (i + 3)) then option_map (λ u. instants u (is_word_at xs i (codes "timestamptz")) true) (unit_in (count_in (lexeme_at xs (i + 2)))) else None

-- whether the two words for floating-point numbers of 64 bits stand there, in an engine that has them
abbrev pub says_double : List SqlLexeme → ℕ → Bool
says_double xs i = is_word_at xs i (codes "double") && is_word_at xs (i + 1) (codes "precision")

abbrev pub is_double_precision : Dialect → List SqlLexeme → ℕ → Bool
is_double_precision Postgres xs i = says_double xs i
is_double_precision Sqlite xs i = says_double xs i
is_double_precision DuckDb xs i = says_double xs i
is_double_precision Spark xs i = false
is_double_precision ClickHouse xs i = false

-- the type that begins at that place
abbrev pub type_at : Dialect → List SqlLexeme → ℕ → Option CastType
type_at d xs i =
    if is_decimal d (word_at xs i) && opens (sign_at xs (i + 1)) then decimals_at xs (i + 1) else (
    if is_double_precision d xs i then Some double_precision else (
    if is_sized d xs i then instants_at xs i else word_type d (word_at xs i)))
