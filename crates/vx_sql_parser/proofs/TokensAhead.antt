-- The token at a place.
use Rattle.std.proofs.Common.{◌≡◌, ℕ, List}
use Rattle.std.specs.Prelude.{slice_get}
use Rattle.std.specs.Option.{option_map}
use Rattle.std.proofs.lemmas.Option.{slice_get-map}
use Rattle.vx_sql_parser.specs.declared.lexed.Lexed.{Lexed}
use Rattle.vx_sql_parser.specs.Views.{lexeme_in, lexemes_of}

pub lexeme_found : (xs : List Lexed) (i : ℕ) → slice_get (lexemes_of xs) i ≡ option_map lexeme_in (slice_get xs i)
lexeme_found xs i = slice_get-map lexeme_in xs i
