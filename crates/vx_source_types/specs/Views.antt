-- What the program's tokens stand for, and what a call that reads answers.
use Rattle.std.specs.Prelude.{◌≡◌, ℕ, List, Result, Ok, Err, drop, string_bytes}
use Rattle.vx_source_types.specs.declared.error.ParseError.{ParseError}
use Rattle.vx_source_types.specs.declared.error.ParseError.TheVariants.{OutOfMemory, Unexpected}
use Rattle.vx_source_types.specs.declared.expectation.Expected.{Expected}
use Rattle.vx_source_types.specs.declared.token.Token.{Token}
use Rattle.vx_source_types.specs.declared.token.Token.TheVariants.{Word, Quoted, Number, Point, Text, Octets, Sign, End, Invalid}
use Rattle.vx_source_types.specs.Tokens.{Lexeme, word, quoted, number, point, text, octets, sign, end, invalid, Taken}

-- what a token stands for
abbrev pub lexeme_of : Token → Lexeme
lexeme_of (Word name) = word name
lexeme_of (Quoted name) = quoted name
lexeme_of (Number negative magnitude suffix) = number negative magnitude suffix
lexeme_of (Point s) = point (string_bytes s)
lexeme_of (Text s) = text (string_bytes s)
lexeme_of (Octets v) = octets v.items
lexeme_of (Sign s) = sign s
lexeme_of End = end
lexeme_of (Invalid e) = invalid e

-- a token and how many bytes it takes of the text, as the token and what is left behind it
abbrev pub taken_of : List ℕ → Token → ℕ → Taken
taken_of bs token len = (lexeme_of token, drop len bs)

-- the call gave what is said, seen by view, or stopped for the same reason, unless memory ran out
abbrev pub Reads : {A B : Type 0} → (A → B) → Result A ParseError → Result B Expected → Type 0
Reads view (Ok x) said = said ≡ Ok (view x)
Reads view (Err OutOfMemory) said = Unit {0}
Reads view (Err (Unexpected at e)) said = said ≡ Err e
