-- What the program's tokens stand for.
use Rattle.std.specs.Prelude.{List, map, Option, Some, None, ℕ, Result, Ok, Err, Vec, String, drop, string_bytes}
use Rattle.std.specs.Option.{option_map}
use Rattle.std.specs.declared.alloc.Global.{Global}
use Rattle.vx_source_types.specs.declared.token.Token.{Token}
use Rattle.vx_source_types.specs.Views.{lexeme_of}
use Rattle.vx_sql.specs.Quotes.{Reading, anywhere, behind_quote, behind_backslash}
use Rattle.vx_sql_parser.specs.declared.reason.Unread.{Unread}
use Rattle.vx_sql_parser.specs.declared.lexed.Lexed.{Lexed}
use Rattle.vx_sql_parser.specs.declared.escapes.Inside.{Inside}
use Rattle.vx_sql_parser.specs.declared.escapes.Inside.TheVariants.{Anywhere, BehindQuote, BehindBackslash}
use Rattle.vx_sql_parser.specs.SqlTokens.{SqlLexeme, Taken}
use Rattle.vx_sql_parser.specs.declared.cast_types.CastType.{CastType}
use Rattle.vx_sql_parser.specs.declared.cast_types.CastType.TheVariants.{Named, DoublePrecision, Decimals, Instants}
use Rattle.vx_sql_parser.specs.CastTypes as types
use Rattle.vx_sql_parser.specs.Values.{Cast}

-- what a token stands for
abbrev pub sql_of : Result Token Unread → SqlLexeme
sql_of (Ok t) = Ok (lexeme_of t)
sql_of (Err r) = Err r

-- the tokens of those that were found
abbrev pub lexeme_in : Lexed → SqlLexeme
lexeme_in x = sql_of x.token

abbrev pub lexemes_of : List Lexed → List SqlLexeme
lexemes_of xs = map lexeme_in xs

-- a token and how many bytes of the text it takes, as the token and what is left behind it
abbrev pub token_of : List ℕ → Result Token Unread → ℕ → SqlLexeme × List ℕ
token_of bs token len = (sql_of token, drop len bs)

-- the same of a token, if there is one
abbrev pub taken_of : List ℕ → Option (Result Token Unread) → ℕ → Taken
taken_of bs token len = (option_map sql_of token, drop len bs)

abbrev pub blank_of : List ℕ → Option (Option (Result Token Unread) × ℕ) → Option Taken
blank_of bs None = None
blank_of bs (Some (token, len)) = Some (taken_of bs token len)

-- what was read between quotes, and how many bytes it takes
abbrev pub between_of : List ℕ → Option (Vec ℕ Global × ℕ) → Option (List ℕ × List ℕ)
between_of bs None = None
between_of bs (Some (made, n)) = Some (made.items, drop n bs)

-- where a reader between quotes is
abbrev pub reading_of : Inside → Reading
reading_of Anywhere = anywhere
reading_of BehindQuote = behind_quote
reading_of BehindBackslash = behind_backslash

-- the bytes that were made
abbrev pub items_in : Vec ℕ Global → List ℕ
items_in v = v.items

-- ---- casts

-- the type of a cast
abbrev pub cast_type_of : CastType → types.CastType
cast_type_of (Named t) = types.named t.now
cast_type_of DoublePrecision = types.double_precision
cast_type_of (Decimals p s) = types.decimals p s
cast_type_of (Instants unit zoned sized) = types.instants unit zoned sized

-- a literal that a cast is, and how many tokens it takes
abbrev pub cast_of : String Global × ℕ → Cast
cast_of (text, len) = (string_bytes text, len)
