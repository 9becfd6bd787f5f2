-- What stands at a place behind a token of SQL.
use Rattle.std.specs.Prelude.{ℕ, Bool, true, false, List, Option, Some, None, Ok, Err, if◌then◌else◌, bytes_eq, slice_get}
use Rattle.vx_source_types.specs.Names.{same_word}
use Rattle.vx_source_types.specs.Tokens.{Lexeme, word, quoted, text, sign}
use Rattle.vx_source_types.specs.declared.token.Sign.{Sign}
use Rattle.vx_source_types.specs.declared.token.Sign.TheVariants.{OpenParen, CloseParen, Comma, Dot, Slash}
use Rattle.vx_sql_parser.specs.SqlTokens.{SqlLexeme}
use Rattle.vx_sql_parser.specs.Words.{is_name}

abbrev pub lexeme_in : Option SqlLexeme → Option Lexeme
lexeme_in None = None
lexeme_in (Some (Err r)) = None
lexeme_in (Some (Ok x)) = Some x

abbrev pub lexeme_at : List SqlLexeme → ℕ → Option Lexeme
lexeme_at xs i = lexeme_in (slice_get xs i)

abbrev pub word_in : Option Lexeme → Option (List ℕ)
word_in (Some (word a)) = Some a
word_in _ = None

abbrev pub text_in : Option Lexeme → Option (List ℕ)
text_in (Some (text s)) = Some s
text_in _ = None

abbrev pub sign_in : Option Lexeme → Option Sign
sign_in (Some (sign s)) = Some s
sign_in _ = None

-- the name that a token is, no word of SQL
abbrev pub name_in : Option Lexeme → Option (List ℕ)
name_in (Some (quoted a)) = Some a
name_in (Some (word a)) = if is_name a then Some a else None
name_in _ = None

abbrev pub opens : Option Sign → Bool
opens (Some OpenParen) = true
opens _ = false

abbrev pub closes : Option Sign → Bool
closes (Some CloseParen) = true
closes _ = false

abbrev pub is_comma : Option Sign → Bool
is_comma (Some Comma) = true
is_comma _ = false

abbrev pub is_slash : Option Sign → Bool
is_slash (Some Slash) = true
is_slash _ = false

abbrev pub is_dot : Option Sign → Bool
is_dot (Some Dot) = true
is_dot _ = false

abbrev pub is_text : Option Lexeme → Bool
is_text (Some (text s)) = true
is_text _ = false

abbrev pub sign_at : List SqlLexeme → ℕ → Option Sign
sign_at xs i = sign_in (lexeme_at xs i)

abbrev pub word_at : List SqlLexeme → ℕ → Option (List ℕ)
word_at xs i = word_in (lexeme_at xs i)

abbrev pub text_at : List SqlLexeme → ℕ → Option (List ℕ)
text_at xs i = text_in (lexeme_at xs i)

-- whether the text is that one
abbrev pub is_text_of : List ℕ → Option (List ℕ) → Bool
is_text_of t None = false
is_text_of t (Some s) = bytes_eq s t

-- whether the word is that one, in either case
abbrev pub is_this : List ℕ → Option (List ℕ) → Bool
is_this w None = false
is_this w (Some a) = same_word a w

abbrev pub is_word_at : List SqlLexeme → ℕ → List ℕ → Bool
is_word_at xs i w = is_this w (word_at xs i)
