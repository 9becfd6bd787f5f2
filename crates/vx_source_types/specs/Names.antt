-- Names of fields in source text.
use Rattle.std.specs.Prelude.{ℕ, Bool, List, Option, Some, None, map}
use Rattle.std.specs.Char.{to_ascii_lowercase}
use Rattle.std.specs.Str.{bytes_eq}
use Rattle.vx_dtype.specs.Texts.{with_commas}
use Rattle.vx_dtype.specs.Types.{Name}
pub use Rattle.vx_source_types.specs.Spellings.{is_plain, name_source}
use Rattle.vx_source_types.specs.Tokens.{Lexeme, word, quoted}

-- the names, with commas between them
abbrev pub names_source : List Name → List ℕ
names_source names = with_commas (map name_source names)

-- the name that a token is
abbrev pub name_at : Lexeme → Option Name
name_at (word a) = Some a
name_at (quoted a) = Some a
name_at _ = None

-- whether two words are the same but for the case of their letters
abbrev pub same_word : List ℕ → List ℕ → Bool
same_word a b = bytes_eq (map to_ascii_lowercase a) (map to_ascii_lowercase b)
