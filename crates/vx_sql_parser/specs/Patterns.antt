-- The patterns of LIKE.
use Rattle.std.specs.Prelude.{ℕ, Bool, true, false, not, ◌==◌, ◌&&◌, ◌||◌, List, [], ◌∷◌, ◌++◌, Option, Some, None, if◌then◌else◌, nat_lt}
use Rattle.vx_sql.specs.declared.dialect.Dialect.{Dialect}
use Rattle.vx_sql.specs.declared.dialect.Dialect.TheVariants.{Postgres, Sqlite, DuckDb, Spark, ClickHouse}
use Rattle.vx_sql_parser.specs.SqlTokens.{utf8}

-- whether LIKE ignores the case of ASCII letters, and there is no ILIKE
abbrev pub ignores_case : Dialect → Bool
ignores_case Postgres = false
ignores_case Sqlite = true
ignores_case DuckDb = false
ignores_case Spark = false
ignores_case ClickHouse = false

-- what makes a character stand for itself where no other is said: 92 is the backslash
abbrev pub default_escape : Dialect → Option ℕ
default_escape Postgres = Some 92
default_escape Sqlite = None
default_escape DuckDb = None
default_escape Spark = Some 92
default_escape ClickHouse = Some 92

-- whether the character may be said to do so: one of ASCII, and neither `%` nor `_`
abbrev pub is_escape : ℕ → Bool
is_escape c = nat_lt c 128 && not (c == 37 || c == 95)

abbrev pub is_that : Option ℕ → ℕ → Bool
is_that None c = false
is_that (Some e) c = c == e

-- whether source text has a backslash before the character where it stands for itself
abbrev pub is_sign : ℕ → Bool
is_sign c = c == 37 || (c == 95 || c == 92)

-- the character, behind a backslash or not
abbrev pub put : Bool → ℕ → List ℕ
put escaped c = if escaped then 92 ∷ c ∷ [] else c ∷ []

abbrev pub behind : List ℕ → Option (List ℕ) → Option (List ℕ)
behind cs None = None
behind cs (Some more) = Some (cs ++ more)

-- the pattern as source text has it, behind an escape or not. An escape stands before `%`, `_` or itself
abbrev pub respelled : Option ℕ → Bool → List ℕ → Option (List ℕ)
respelled e false [] = Some []
respelled e true [] = None
respelled e true (c ∷ cs) = if is_that e c || (c == 37 || c == 95) then behind (put (is_sign c) c) (respelled e false cs) else None
respelled e false (c ∷ cs) = if is_that e c then respelled e true cs else behind (put (c == 92) c) (respelled e false cs)

-- that as a text
abbrev pub as_text : Option (List ℕ) → Option (List ℕ)
as_text None = None
as_text (Some p) = utf8 p

abbrev pub pattern_source : Option ℕ → List ℕ → Option (List ℕ)
pattern_source e p = as_text (respelled e false p)
