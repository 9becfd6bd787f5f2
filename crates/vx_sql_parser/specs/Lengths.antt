-- Lengths of texts in bytes, as engines say them.
use Rattle.std.specs.Prelude.{ℕ, ◌&&◌, Bool, true, false, List, Ok, Err, if◌then◌else◌, codes}
use Rattle.vx_source_types.specs.Names.{same_word}
use Rattle.vx_sql.specs.declared.dialect.Dialect.{Dialect}
use Rattle.vx_sql.specs.declared.dialect.Dialect.TheVariants.{Postgres, Sqlite, DuckDb, Spark, ClickHouse}
use Rattle.vx_sql_parser.specs.declared.reason.Unread.TheVariants.{Function}
use Rattle.vx_sql_parser.specs.declared.step.Bracket.TheVariants.{Length}
use Rattle.vx_sql_parser.specs.declared.step.Change.TheVariants.{Opens, Closes}
use Rattle.vx_sql_parser.specs.SqlTokens.{SqlLexeme}
use Rattle.vx_sql_parser.specs.Steps.{Answer, says}
use Rattle.vx_sql_parser.specs.Ahead.{opens, closes, sign_at, is_word_at}

-- whether the word is the outer of two functions, the first token its bracket, and the inner one with its bracket follows
abbrev pub calls_inside : List ℕ → List ℕ → List ℕ → List SqlLexeme → Bool
calls_inside outer inner w xs = same_word w outer && (is_word_at xs 1 inner && opens (sign_at xs 2))

-- whether the bytes of what stands behind are counted, as a number of 64 bits: by `CAST(octet_length(`, `length(CAST(` or `toInt64(length(`
abbrev pub counts_bytes : Dialect → List ℕ → List SqlLexeme → Bool
counts_bytes Postgres w xs = calls_inside (codes "cast") (codes "octet_length") w xs
counts_bytes Sqlite w xs = calls_inside (codes "length") (codes "cast") w xs
counts_bytes DuckDb w xs = false
counts_bytes Spark w xs = calls_inside (codes "cast") (codes "octet_length") w xs
counts_bytes ClickHouse w xs = calls_inside (codes "toint64") (codes "length") w xs

abbrev pub length_begins : Answer
length_begins = says (codes "byte_length(") (Opens Length) 3

-- the inner bracket closes, and the outer one so many tokens behind it
abbrev pub length_ends : Bool → ℕ → Answer
length_ends ends n = if ends then says (codes ")") Closes n else Err Function

-- whether `AS bigint)` stands at the front, behind which a length has 64 bits
abbrev pub makes_long : List SqlLexeme → Bool
makes_long xs = is_word_at xs 0 (codes "as") && (is_word_at xs 1 (codes "bigint") && closes (sign_at xs 2))

-- what stands behind the closing bracket of the inner function
abbrev pub length_closes : Dialect → List SqlLexeme → Answer
length_closes Postgres xs = length_ends (makes_long xs) 3
length_closes Sqlite xs = Err Function
length_closes DuckDb xs = Err Function
length_closes Spark xs = length_ends (makes_long xs) 3
length_closes ClickHouse xs = length_ends (closes (sign_at xs 0)) 1

-- whether `BLOB))` stands at the front, by which SQLite's length is one of bytes
abbrev pub makes_bytes : List SqlLexeme → Bool
makes_bytes xs = is_word_at xs 0 (codes "blob") && (closes (sign_at xs 1) && closes (sign_at xs 2))

-- `as` inside a length, which is SQLite's
abbrev pub length_as : Dialect → List SqlLexeme → Answer
length_as Postgres xs = Err Function
length_as Sqlite xs = length_ends (makes_bytes xs) 3
length_as DuckDb xs = Err Function
length_as Spark xs = Err Function
length_as ClickHouse xs = Err Function
