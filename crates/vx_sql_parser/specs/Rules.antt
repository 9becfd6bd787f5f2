-- What tokens of SQL are written as, one after another.
use Rattle.std.specs.Prelude.{ℕ, zero, suc, ◌+◌, ◌||◌, ◌&&◌, Bool, false, not, List, [], ◌∷◌, ◌++◌, Option, Some, None, Result, Ok, Err, if◌then◌else◌, codes}
use Rattle.vx_source_types.specs.Names.{same_word}
use Rattle.vx_dtype.specs.Quotes.{between_quotes}
use Rattle.vx_source_types.specs.Tokens.{Lexeme, word, quoted, number, point, text, sign}
use Rattle.vx_source_types.specs.declared.token.Sign.{Sign}
use Rattle.vx_source_types.specs.declared.token.Sign.TheVariants.{OpenParen, CloseParen, Comma, Dot, Equal, DoubleEqual, NotEqual, Less, LessEqual, Greater, GreaterEqual, Plus, Minus, Star, Slash, Percent}
use Rattle.vx_sql.specs.declared.dialect.Dialect.{Dialect}
use Rattle.vx_sql.specs.declared.dialect.Dialect.TheVariants.{Postgres, Sqlite, DuckDb, Spark, ClickHouse}
use Rattle.vx_sql_parser.specs.declared.reason.Unread.{Unread}
use Rattle.vx_sql_parser.specs.declared.reason.Unread.TheVariants.{Sign as NoSign, Quotient, Chain, Function, Word, Fill as NoFill, Operand, Collation}
use Rattle.vx_sql_parser.specs.declared.step.Bracket.{Bracket}
use Rattle.vx_sql_parser.specs.declared.step.Bracket.TheVariants.{Paren, Fill, Lower, Translate, Divided, Length, Case, CaseOf}
use Rattle.vx_sql_parser.specs.declared.step.Change.TheVariants.{Stays, Chains, Divides, Opens, Closes}
use Rattle.vx_sql_parser.specs.SqlTokens.{SqlLexeme, sql_tokens}
use Rattle.vx_sql_parser.specs.Words.{is_divider, is_plain_word, is_reserved}
use Rattle.vx_sql_parser.specs.Patterns.{ignores_case}
use Rattle.vx_sql_parser.specs.Steps.{State, changed, innermost, Answer, says}
use Rattle.vx_sql_parser.specs.Ahead.{lexeme_at, name_in, opens, closes, is_slash, is_text, sign_at, is_word_at}
use Rattle.vx_sql_parser.specs.CastTypes.{type_at}
use Rattle.vx_sql_parser.specs.Lengths.{length_closes, length_as}
use Rattle.vx_sql_parser.specs.Values.{name_rule, number_rule, point_rule, is_bytes_order, as_said, valued_rule, is_fill}
use Rattle.vx_sql_parser.specs.Matches.{like_rule, ilike_rule, glob_rule, folded_like, lower_closes, translated}

-- ---- CASE

abbrev pub case_over : List SqlLexeme → Option (List ℕ) → Answer
case_over xs None = Err Operand
case_over xs (Some a) = if is_word_at xs 1 (codes "when") then says (codes "case") (Opens (CaseOf a)) 1 else Err Operand

-- a CASE, over a column or not
abbrev pub case_begins : List SqlLexeme → Answer
case_begins xs = if is_word_at xs 0 (codes "when") then says (codes "case") (Opens Case) 0 else case_over xs (name_in (lexeme_at xs 0))

-- a condition of a CASE over a column is that the column is what stands there
abbrev pub when_said : Option Bracket → List ℕ
when_said (Some (CaseOf a)) = codes "when " ++ (between_quotes 96 a ++ codes " = (")
when_said _ = codes "when"

abbrev pub then_said : Option Bracket → List ℕ
then_said (Some (CaseOf a)) = codes ") then"
then_said _ = codes "then"

-- ---- commas and collations

-- a comma, behind which a literal is due inside a `coalesce`
abbrev pub comma_rule : Dialect → Option Bracket → List SqlLexeme → Answer
comma_rule d (Some Fill) xs = if is_fill d xs then says (codes ",") Divides 0 else Err NoFill
comma_rule d (Some Translate) xs = translated d xs
comma_rule d (Some Divided) xs = says (codes ") / (") Divides 0
comma_rule d _ xs = says (codes ",") Divides 0

-- a collation, which isn't written where it is the one of bytes. In `lower(.. COLLATE "C")` the bracket closes behind it
abbrev pub collate_rule : Dialect → Option Bracket → List SqlLexeme → Answer
collate_rule d (Some Lower) xs = if is_bytes_order (lexeme_at xs 0) && closes (sign_at xs 1) then folded_like d xs 2 else Err Function
collate_rule d top xs = if is_bytes_order (lexeme_at xs 0) then says [] Stays 1 else Err Collation

-- ---- words

-- `is`, and the tests for null that PostgreSQL has for structs
abbrev pub is_distinct : List SqlLexeme → ℕ → Bool
is_distinct xs i = is_word_at xs i (codes "distinct") && (is_word_at xs (i + 1) (codes "from") && is_word_at xs (i + 2) (codes "null"))

abbrev pub is_rule : List SqlLexeme → Answer
is_rule xs =
    if is_distinct xs 0 then says (codes "is not null") Stays 3 else (
    if is_word_at xs 0 (codes "not") && is_distinct xs 1 then says (codes "is null") Stays 4 else says (codes "is") Stays 0)

-- a word of queries or operators: `div` divides whole numbers, in PostgreSQL as a function, and in Spark as an operator
abbrev pub reserved_rule : Dialect → List ℕ → List SqlLexeme → Answer
reserved_rule Postgres w xs = if same_word w (codes "div") && opens (sign_at xs 0) then says (codes "((") (Opens Divided) 1 else Err Word
reserved_rule Sqlite w xs = Err Word
reserved_rule DuckDb w xs = Err Word
reserved_rule Spark w xs = if same_word w (codes "div") then says (codes "/") Stays 0 else Err Word
reserved_rule ClickHouse w xs = Err Word

-- a word that is a name, a function, or no word that is read
abbrev pub other_rule : Dialect → Option Bracket → List ℕ → List SqlLexeme → Answer
other_rule d top w xs =
    if is_reserved w then reserved_rule d w xs else (
    if opens (sign_at xs 0) || is_text (lexeme_at xs 0) then valued_rule d w xs else (
    if same_word w (codes "collate") then collate_rule d top xs else name_rule w xs))

-- the words of a CASE
abbrev pub case_rule : Dialect → Option Bracket → List ℕ → List SqlLexeme → Answer
case_rule d top w xs =
    if same_word w (codes "case") then case_begins xs else (
    if same_word w (codes "when") then says (when_said top) Divides 0 else (
    if same_word w (codes "then") then says (then_said top) Divides 0 else (
    if same_word w (codes "end") then says (codes "end") Closes 0 else
    other_rule d top w xs)))

-- `as`, before a type
abbrev pub as_rule : Dialect → Option Bracket → List SqlLexeme → Answer
as_rule d (Some Length) xs = length_as d xs
as_rule d top xs = as_said (type_at d xs 0)

-- `is`, `like`, `ilike`, `glob` and `as`
abbrev pub keyword_rule : Dialect → Option Bracket → List ℕ → List SqlLexeme → Answer
keyword_rule d top w xs =
    if same_word w (codes "is") then is_rule xs else (
    if same_word w (codes "like") then like_rule d (ignores_case d) xs 0 else (
    if same_word w (codes "ilike") then ilike_rule d xs else (
    if same_word w (codes "glob") then glob_rule d xs else (
    if same_word w (codes "as") then as_rule d top xs else
    case_rule d top w xs))))

abbrev pub word_rule : Dialect → Option Bracket → List ℕ → List SqlLexeme → Answer
word_rule d top w xs = if is_divider w then says w Divides 0 else (if is_plain_word w then says w Stays 0 else keyword_rule d top w xs)

-- ---- signs

-- a `<` or `<=`, of which none stands before it
abbrev pub chain_rule : Bool → List ℕ → Answer
chain_rule chained s = if chained then Err Chain else says s Chains 0

-- a closing bracket, but behind a text whose case is ignored and that isn't matched; that of a quotient closes two
abbrev pub close_rule : Dialect → Option Bracket → List SqlLexeme → Answer
close_rule d (Some Lower) xs = lower_closes d xs
close_rule d (Some Translate) xs = Err Function
close_rule d (Some Divided) xs = says (codes "))") Closes 0
close_rule d (Some Length) xs = length_closes d xs
close_rule d top xs = says (codes ")") Closes 0

-- a `/`: the quotient of whole numbers is one in PostgreSQL and SQLite, and that by `//` in DuckDB; the others have a fraction
abbrev pub slash_rule : Dialect → List SqlLexeme → Answer
slash_rule Postgres xs = says (codes "/") Stays 0
slash_rule Sqlite xs = says (codes "/") Stays 0
slash_rule DuckDb xs = if is_slash (sign_at xs 0) then says (codes "/") Stays 1 else Err Quotient
slash_rule Spark xs = Err Quotient
slash_rule ClickHouse xs = Err Quotient

abbrev pub sign_rule : Bool → Sign → Answer
sign_rule chained OpenParen = says (codes "(") (Opens Paren) 0
sign_rule chained Dot = says (codes ".") Stays 0
sign_rule chained Equal = says (codes "=") Stays 0
sign_rule chained DoubleEqual = says (codes "=") Stays 0
sign_rule chained NotEqual = says (codes "<>") Stays 0
sign_rule chained Less = chain_rule chained (codes "<")
sign_rule chained LessEqual = chain_rule chained (codes "<=")
sign_rule chained Greater = says (codes ">") Stays 0
sign_rule chained GreaterEqual = says (codes ">=") Stays 0
sign_rule chained Plus = says (codes "+") Stays 0
sign_rule chained Minus = says (codes "-") Stays 0
sign_rule chained Star = says (codes "*") Stays 0
sign_rule chained Percent = says (codes "%") Stays 0
sign_rule chained other = Err NoSign

-- ---- tokens

-- what a token is written as: inside that bracket, behind a `<` there or not, and before those tokens
abbrev pub token_rule : Dialect → Option Bracket → Bool → Lexeme → List SqlLexeme → Answer
token_rule d top chained (word w) xs = word_rule d top w xs
token_rule d top chained (quoted a) xs = name_rule a xs
token_rule d top chained (text t) xs = says (between_quotes 34 t) Stays 0
token_rule d top chained (number negative (Some n) s) xs = number_rule negative n xs
token_rule d top chained (point s) xs = point_rule d s xs
token_rule d top chained (sign CloseParen) xs = close_rule d top xs
token_rule d top chained (sign Comma) xs = comma_rule d top xs
token_rule d top chained (sign Slash) xs = slash_rule d xs
token_rule d top chained (sign o) xs = sign_rule chained o
token_rule d top chained x xs = Err NoSign

abbrev pub rule : Dialect → Option Bracket → Bool → SqlLexeme → List SqlLexeme → Answer
rule d top chained (Ok x) xs = token_rule d top chained x xs
rule d top chained (Err r) xs = Err r

-- a text, a blank, and what is written behind it
abbrev pub onto : List ℕ → Result (List ℕ) Unread → Result (List ℕ) Unread
onto t (Ok ts) = Ok (t ++ 32 ∷ ts)
onto t (Err r) = Err r

-- what the tokens are written as, of which so many are written already
abbrev pub written : Dialect → State → ℕ → List SqlLexeme → Result (List ℕ) Unread
written d s n [] = Ok []
written d s (suc n) (x ∷ xs) = written d s n xs
written d s zero (x ∷ xs) =
    elim (rule d (innermost s.brackets) s.chained x xs) [
      | Ok said ↦ onto said.text (written d (changed said.change s) said.more xs)
      | Err r ↦ Err r
    ]

-- nothing is open
abbrev pub at_start : State
at_start = record { brackets = []; chained = false }

-- the source text that a text of SQL is read as
abbrev pub sql_source : Dialect → List ℕ → Result (List ℕ) Unread
sql_source d bs = written d at_start 0 (sql_tokens d 0 bs)
