-- What LIKE, ILIKE and GLOB are written as, and matches of a text whose case a function ignores.
use Rattle.std.specs.Prelude.{ℕ, ◌+◌, ◌&&◌, Bool, true, false, not, List, [], ◌∷◌, ◌++◌, Option, Some, None, Ok, Err, if◌then◌else◌, codes}
use Rattle.std.specs.Char.{is_ascii, is_ascii_uppercase}
use Rattle.std.specs.List.{list_all}
use Rattle.vx_dtype.specs.Quotes.{between_quotes}
use Rattle.vx_source_types.specs.Tokens.{text}
use Rattle.vx_sql.specs.declared.dialect.Dialect.{Dialect}
use Rattle.vx_sql.specs.declared.dialect.Dialect.TheVariants.{Postgres, Sqlite, DuckDb, Spark, ClickHouse}
use Rattle.vx_sql_parser.specs.declared.reason.Unread.TheVariants.{Function, Word, Pattern, Escape, Glob, Case as NoCase}
use Rattle.vx_sql_parser.specs.declared.step.Change.TheVariants.{Stays, Closes}
use Rattle.vx_sql_parser.specs.SqlTokens.{SqlLexeme}
use Rattle.vx_sql_parser.specs.Globs.{glob_source}
use Rattle.vx_sql_parser.specs.Patterns.{ignores_case, default_escape, is_escape, pattern_source}
use Rattle.vx_sql_parser.specs.Steps.{Answer, says}
use Rattle.vx_sql_parser.specs.Ahead.{lexeme_at, closes, is_comma, is_text, sign_at, text_at, is_text_of, is_word_at}
use Rattle.vx_sql_parser.specs.Values.{Cast, literal_cast}

-- ---- LIKE

-- the word of a pattern that is matched with case ignored, or not
abbrev pub like_word : Bool → List ℕ
like_word false = codes "like "
like_word true = codes "ilike "

abbrev pub like_said : Bool → ℕ → Option (List ℕ) → Answer
like_said ignores n (Some p) = says (like_word ignores ++ between_quotes 34 p) Stays n
like_said ignores n None = Err Escape

-- the pattern, where that character, if any, makes the one behind it stand for itself
abbrev pub pattern_said : Bool → Option ℕ → List ℕ → ℕ → Answer
pattern_said ignores e p n = like_said ignores n (pattern_source e p)

-- the escape that a text is
abbrev pub escape_in : Option (List ℕ) → Option ℕ
escape_in (Some (c ∷ [])) = if is_escape c then Some c else None
escape_in _ = None

abbrev pub escape_said : Bool → List ℕ → Option ℕ → ℕ → Answer
escape_said ignores p None n = Err Escape
escape_said ignores p (Some c) n = pattern_said ignores (Some c) p n

-- how many tokens say an escape
abbrev pub escape_len : List SqlLexeme → ℕ → ℕ
escape_len xs i = if is_word_at xs i (codes "escape") && is_text (lexeme_at xs (i + 1)) then 2 else 0

-- a pattern that is null, whatever the escape
abbrev pub null_said : Bool → List SqlLexeme → ℕ → Option Cast → Answer
null_said ignores xs i (Some (t, n)) = says (like_word ignores ++ t) Stays (i + n + escape_len xs (i + n))
null_said ignores xs i None = Err Pattern

abbrev pub null_pattern : Dialect → Bool → List SqlLexeme → ℕ → Answer
null_pattern d ignores xs i = if is_word_at xs i (codes "cast") && is_word_at xs (i + 2) (codes "null") then null_said ignores xs (i + 1) (literal_cast d xs (i + 1)) else Err Pattern

abbrev pub like_over : Dialect → Bool → List SqlLexeme → ℕ → Option (List ℕ) → Answer
like_over d ignores xs i None = null_pattern d ignores xs i
like_over d ignores xs i (Some p) = if is_word_at xs (i + 1) (codes "escape") then escape_said ignores p (escape_in (text_at xs (i + 2))) (i + 3) else pattern_said ignores (default_escape d) p (i + 1)

-- a match with case ignored, or not, of the pattern at that place
abbrev pub like_rule : Dialect → Bool → List SqlLexeme → ℕ → Answer
like_rule d ignores xs i = like_over d ignores xs i (text_at xs i)

-- an engine's ILIKE ignores the case of all letters, and `ilike` that of those of ASCII: a pattern of these alone is read
abbrev pub is_ascii_text : Option (List ℕ) → Bool
is_ascii_text (Some p) = list_all is_ascii p
is_ascii_text None = true

abbrev pub ilike_rule : Dialect → List SqlLexeme → Answer
ilike_rule d xs = if ignores_case d then Err Word else (if is_ascii_text (text_at xs 0) then like_rule d true xs 0 else Err NoCase)

-- a match of a pattern of GLOB, in SQLite alone
abbrev pub glob_said : Option (List ℕ) → Option (List ℕ) → Answer
glob_said (Some p) q = like_said false 1 (Some p)
glob_said None (Some p) = like_said true 1 (Some p)
glob_said None None = Err Glob

abbrev pub glob_over : List SqlLexeme → Option (List ℕ) → Answer
glob_over xs None = null_pattern Sqlite false xs 0
glob_over xs (Some p) = glob_said (glob_source false p) (glob_source true p)

abbrev pub glob_rule : Dialect → List SqlLexeme → Answer
glob_rule Sqlite xs = glob_over xs (text_at xs 0)
glob_rule d xs = Err Word

-- ---- matches of a text whose case a function ignores

-- whether the pattern has no capital of ASCII, if it is a text
abbrev pub is_small : Option (List ℕ) → Bool
is_small (Some p) = list_all (λ c. not (is_ascii_uppercase c)) p
is_small None = true

-- the closing bracket, and then the match
abbrev pub closed_by : List ℕ → Answer → Answer
closed_by before (Ok said) = says (before ++ said.text) Closes said.more
closed_by before (Err r) = Err r

-- LIKE at that place, before a small pattern
abbrev pub small_like : Dialect → List ℕ → List SqlLexeme → ℕ → Answer
small_like d before xs i = if is_word_at xs i (codes "like") && is_small (text_at xs (i + 1)) then closed_by before (like_rule d true xs (i + 1)) else Err Function

-- the same, or NOT LIKE
abbrev pub folded_like : Dialect → List SqlLexeme → ℕ → Answer
folded_like d xs i = if is_word_at xs i (codes "not") then small_like d (codes ") not ") xs (i + 1) else small_like d (codes ") ") xs i

-- behind the closing bracket of a `lower(..)`, which in ClickHouse needs no collation
abbrev pub lower_closes : Dialect → List SqlLexeme → Answer
lower_closes Postgres xs = Err Function
lower_closes Sqlite xs = Err Function
lower_closes DuckDb xs = Err Function
lower_closes Spark xs = Err Function
lower_closes ClickHouse xs = folded_like ClickHouse xs 0

-- whether that text stands there
abbrev pub is_this_text : List SqlLexeme → ℕ → List ℕ → Bool
is_this_text xs i t = is_text_of t (text_at xs i)

-- behind the comma of `translate(..)` each capital and its small letter, and then the closing bracket
abbrev pub are_letters : List SqlLexeme → Bool
are_letters xs = (is_this_text xs 0 (codes "ABCDEFGHIJKLMNOPQRSTUVWXYZ") && is_comma (sign_at xs 1)) && (is_this_text xs 2 (codes "abcdefghijklmnopqrstuvwxyz") && closes (sign_at xs 3))

abbrev pub translated : Dialect → List SqlLexeme → Answer
translated d xs = if are_letters xs then folded_like d xs 4 else Err Function
