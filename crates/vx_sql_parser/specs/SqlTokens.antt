-- The tokens of a text of SQL, as those of source text.
use Rattle.std.specs.Prelude.{ℕ, zero, suc, ◌+◌, ◌-◌, Bool, true, false, not, ◌==◌, ◌||◌, ◌&&◌, List, [], ◌∷◌, length, drop, map, Option, Some, None, Result, Ok, Err, if◌then◌else◌}
use Rattle.std.specs.List.{prefix_len}
use Rattle.std.specs.Char.{to_ascii_lowercase}
use Rattle.std.specs.Str.{is_utf8}
use Rattle.vx_source_types.specs.declared.expectation.Expected.{Expected}
use Rattle.vx_source_types.specs.declared.expectation.Expected.TheVariants as expected
use Rattle.vx_source_types.specs.Characters.{is_blank}
use Rattle.vx_source_types.specs.Tokens.{Lexeme, word, quoted, number, point, text, octets, sign, end, invalid, next, first}
use Rattle.vx_sql.specs.declared.dialect.Dialect.{Dialect}
use Rattle.vx_sql.specs.declared.dialect.Dialect.TheVariants.{Postgres, Sqlite, DuckDb, Spark, ClickHouse}
use Rattle.vx_sql.specs.Quotes.{is_escaped, quoting_of, Reading, anywhere, text_read}
use Rattle.vx_sql_parser.specs.declared.reason.Unread.{Unread}
use Rattle.vx_sql_parser.specs.declared.reason.Unread.TheVariants.{Sign as NoSign, Unclosed, Comment, NameQuote, Number as NoNumber}

-- a token, or why there is none
abbrev pub SqlLexeme : Type 0
SqlLexeme = Result Lexeme Unread

-- a token, none for blanks and comments, and what is left behind it
abbrev pub Taken : Type 0
Taken = Option SqlLexeme × List ℕ

-- ---- tokens that source text has, too

-- whether the engine's names stand between such quotes, 34 or 96. SQLite and ClickHouse have both
abbrev pub has_name_quote : Dialect → ℕ → Bool
has_name_quote Postgres q = q == 34
has_name_quote Sqlite q = true
has_name_quote DuckDb q = q == 34
has_name_quote Spark q = q == 96
has_name_quote ClickHouse q = true

-- a name between such quotes, in which no backslash may say something
abbrev pub name_lexeme : Dialect → ℕ → List ℕ → SqlLexeme
name_lexeme d q a = if has_name_quote d q then (if is_escaped d a then Err Unclosed else Ok (quoted a)) else Err NameQuote

-- PostgreSQL makes the letters of words small
abbrev pub folded : Dialect → List ℕ → List ℕ
folded Postgres w = map to_ascii_lowercase w
folded Sqlite w = w
folded DuckDb w = w
folded Spark w = w
folded ClickHouse w = w

-- a whole number below 2 ^ 64 has no word behind it; from there on it is its text
abbrev pub number_lexeme : Bool → Option ℕ → List ℕ → SqlLexeme
number_lexeme negative (Some n) [] = Ok (number negative (Some n) [])
number_lexeme negative m suffix = Err NoNumber

-- between double quotes stands a name
abbrev pub text_or_name : Dialect → ℕ → List ℕ → SqlLexeme
text_or_name d b s = if b == 34 then name_lexeme d 34 s else Ok (text s)

-- why there is no token: `0x` begins a number
abbrev pub no_token : Expected → Unread
no_token expected.Token = NoSign
no_token expected.HexDigits = NoNumber
no_token e = Unclosed

-- what a token of source text that begins with b is here
abbrev pub as_sql : Dialect → ℕ → Lexeme → SqlLexeme
as_sql d b (word w) = Ok (word (folded d w))
as_sql d b (quoted a) = name_lexeme d 96 a
as_sql d b (number negative m suffix) = number_lexeme negative m suffix
as_sql d b (point s) = Ok (point s)
as_sql d b (text s) = text_or_name d b s
as_sql d b (octets bs) = Err NoNumber
as_sql d b (sign s) = Ok (sign s)
as_sql d b end = Err NoSign
as_sql d b (invalid e) = Err (no_token e)

abbrev pub plain_taken : Dialect → List ℕ → SqlLexeme × List ℕ
plain_taken d bs = (as_sql d (next bs) (first bs).0, (first bs).1)

-- ---- texts in which a backslash says something of what is behind it

-- how many bytes open such a text: `E'` in PostgreSQL, and a quote in Spark and ClickHouse; 0 where none begins
abbrev pub opening_len : Dialect → List ℕ → ℕ
opening_len Postgres bs = if (next bs == 69 || next bs == 101) && next (drop 1 bs) == 39 then 2 else 0
opening_len Sqlite bs = 0
opening_len DuckDb bs = 0
opening_len Spark bs = if next bs == 39 then 1 else 0
opening_len ClickHouse bs = if next bs == 39 then 1 else 0

-- whether two quotes stand for one in it
abbrev pub doubles_quotes : Dialect → Bool
doubles_quotes Postgres = true
doubles_quotes Sqlite = true
doubles_quotes DuckDb = true
doubles_quotes Spark = false
doubles_quotes ClickHouse = true

-- the bytes, where they are a text
abbrev pub utf8 : List ℕ → Option (List ℕ)
utf8 bs = if is_utf8 bs then Some bs else None

abbrev pub of_text : Option (List ℕ) → SqlLexeme
of_text None = Err Unclosed
of_text (Some s) = Ok (text s)

abbrev pub text_lexeme : List ℕ → SqlLexeme
text_lexeme made = of_text (utf8 made)

abbrev pub text_taken : Option (List ℕ × List ℕ) → SqlLexeme × List ℕ
text_taken None = (Err Unclosed, [])
text_taken (Some (made, rest)) = (text_lexeme made, rest)

-- what stands behind what opens such a text, by the engines' ways with a backslash, 92: PostgreSQL's and ClickHouse's, where quotes
-- are doubled, and Spark's
abbrev pub escaped_read : Bool → Reading → List ℕ → Option (List ℕ × List ℕ)
escaped_read doubled at bs = text_read (quoting_of (if doubled then Postgres else Spark) (92 ∷ [])) at bs

abbrev pub escaped_taken : Bool → List ℕ → SqlLexeme × List ℕ
escaped_taken doubled bs = text_taken (escaped_read doubled anywhere bs)

-- a token
abbrev pub token_taken : Dialect → List ℕ → SqlLexeme × List ℕ
token_taken d bs = if opening_len d bs == 0 then plain_taken d bs else escaped_taken (doubles_quotes d) (drop (opening_len d bs) bs)

-- ---- comments

-- whether two bytes end a comment, or open one
abbrev pub ends_comment : ℕ → ℕ → Bool
ends_comment before b = before == 42 && b == 47

abbrev pub opens_comment : ℕ → ℕ → Bool
opens_comment before b = before == 47 && b == 42

abbrev pub one_more : Option ℕ → Option ℕ
one_more None = None
one_more (Some n) = Some (suc n)

-- how many bytes a comment takes up to `*/`, where a byte stands before; another one inside has no end
abbrev pub closing : ℕ → List ℕ → Option ℕ
closing before [] = None
closing before (b ∷ bs) = if ends_comment before b then Some 1 else (if opens_comment before b then None else one_more (closing b bs))

abbrev pub begins_comment : List ℕ → Bool
begins_comment [] = false
begins_comment (b ∷ bs) = b == 47 && next bs == 42

-- a comment, which begins with two bytes
abbrev pub comment_taken : List ℕ → Option ℕ → Taken
comment_taken bs None = (Some (Err Comment), [])
comment_taken bs (Some n) = (None, drop (2 + n) bs)

-- how many bytes stand before the end of the line
abbrev pub line_len : List ℕ → ℕ
line_len bs = prefix_len (λ b. not (b == 10)) bs

-- a blank, or a comment to the end of the line or between `/*` and `*/`, if one is at the front
abbrev pub blank_taken : List ℕ → Option Taken
blank_taken [] = Some (None, [])
blank_taken (b ∷ bs) =
    if is_blank b then Some (None, bs) else (
    if b == 45 && next bs == 45 then Some (None, drop (line_len bs) bs) else (
    if begins_comment (b ∷ bs) then Some (comment_taken (b ∷ bs) (closing 0 (drop 2 (b ∷ bs)))) else None))

-- ---- whole texts

abbrev pub or_token : SqlLexeme × List ℕ → Option Taken → Taken
or_token token None = (Some token.0, token.1)
or_token token (Some blank) = blank

-- what is at the front: a blank, a comment or a token
abbrev pub taken_at : Dialect → List ℕ → Taken
taken_at d bs = or_token (token_taken d bs) (blank_taken bs)

-- the token in front of others, if it is one
abbrev pub put_token : Option SqlLexeme → List SqlLexeme → List SqlLexeme
put_token None xs = xs
put_token (Some x) xs = x ∷ xs

-- the tokens of a text, of which so many bytes belong to the token before it
abbrev pub sql_tokens : Dialect → ℕ → List ℕ → List SqlLexeme
sql_tokens d n [] = []
sql_tokens d (suc n) (b ∷ bs) = sql_tokens d n bs
sql_tokens d zero (b ∷ bs) = put_token (taken_at d (b ∷ bs)).0 (sql_tokens d (length bs - length (taken_at d (b ∷ bs)).1) bs)
