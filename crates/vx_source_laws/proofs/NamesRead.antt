-- A name that is written is the first token, and is that name.
use Rattle.std.proofs.Common.{◌≡◌, ℕ, Bool, true, false, List, [], ◌∷◌, ◌++◌, Some, map, refl}
use Rattle.std.specs.Prelude.{◌==◌}
use Rattle.std.specs.Str.{IsUtf8}
use Rattle.vx_dtype.proofs.Commas.{after_commas}
use Rattle.vx_value.specs.Types.{Name}
use Rattle.vx_source_types.proofs.FirstTokens.{first_word, first_quoted}
use Rattle.vx_source_types.specs.Characters.{is_word}
use Rattle.vx_source_types.specs.Tokens.{Lexeme, word, quoted, next, first}
use Rattle.vx_dtype.specs.Quotes.{between_quotes}
use Rattle.vx_source_types.specs.Names.{is_plain, name_source, name_at}

-- a token that is the name
pub data IsNameOf (a : Name) : Lexeme → Type 0 where
  as_word : IsNameOf a (word a)
  as_quoted : IsNameOf a (quoted a)

pub named : {a : Name} {x : Lexeme} → IsNameOf a x → name_at x ≡ Some a
named as_word = refl
named as_quoted = refl

-- the name at the front of a text
pub record Named (a : Name) (bs rest : List ℕ) : Type 0 where
  pub token : Lexeme
  pub found : first bs ≡ (token, rest)
  pub is_name : IsNameOf a token

pub name_again : (a : Name) (rest : List ℕ) → IsUtf8 a → is_word (next rest) ≡ false → (next rest == 96) ≡ false → Named a (name_source a ++ rest) rest
name_again a rest u e q = go (is_plain a) refl where
  go : (b : Bool) → is_plain a ≡ b → Named a ((elim b as (λ v. List ℕ) [ true ↦ a | false ↦ between_quotes 96 a ]) ++ rest) rest
  go true p = record { token = word a; found = first_word a rest p e; is_name = as_word }
  go false p = record { token = quoted a; found = first_quoted a rest u q; is_name = as_quoted }

-- a name ends before a comma, and where the names end
pub name_ends : (names : List Name) (rest : List ℕ) → is_word (next rest) ≡ false → (next rest == 96) ≡ false
    → (is_word (next (after_commas (map name_source names) ++ rest)) ≡ false) × ((next (after_commas (map name_source names) ++ rest) == 96) ≡ false)
name_ends [] rest e q = (e, q)
name_ends (a ∷ names) rest e q = (refl, refl)
