-- How tokens are spelled.
use Rattle.std.specs.Prelude.{ℕ, Bool, true, false, ◌&&◌, List, [], ◌∷◌}
use Rattle.std.specs.List.{list_all}
use Rattle.vx_dtype.specs.Quotes.{between_quotes}
use Rattle.vx_source_types.specs.Characters.{is_letter, is_word}

-- whether the text is a word: letters, digits and underscores, and no digit first
abbrev pub is_plain : List ℕ → Bool
is_plain [] = false
is_plain (b ∷ bs) = is_letter b && list_all is_word bs

-- a name as it is where it is a word, else between backquotes
abbrev pub name_source : List ℕ → List ℕ
name_source a = elim (is_plain a) [ true ↦ a | false ↦ between_quotes 96 a ]
