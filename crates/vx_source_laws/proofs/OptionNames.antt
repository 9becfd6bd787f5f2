-- The names in a function's options.
use Rattle.std.proofs.Common.{◌≡◌, ℕ, false, List, [], ◌∷◌, ◌++◌, map, refl, ap, ◌∙◌, append_assoc}
use Rattle.std.specs.Prelude.{codes, ◌==◌}
use Rattle.vx_dtype.proofs.Commas.{after_commas}
use Rattle.vx_value.specs.Types.{Name}
use Rattle.vx_source_types.proofs.FirstSigns.{first_comma}
use Rattle.vx_source_types.specs.Characters.{is_word}
use Rattle.vx_source_types.specs.declared.token.Sign.TheVariants.{Comma}
use Rattle.vx_source_types.specs.Tokens.{Lexeme, sign, next}
use Rattle.vx_source_types.specs.Names.{name_source, names_source}
use Rattle.vx_source_grammar.specs.OptionReading.{names_read, more_read, name_then}
use Rattle.vx_source_laws.specs.SpelledTrees.{AreTexts}
use Rattle.vx_source_laws.proofs.Collecting.{Brackets, Collected, no_token, one_token, of_collected_text}
use Rattle.vx_source_laws.proofs.NamesRead.{IsNameOf, as_word, as_quoted, name_again, name_ends}

-- a token with which names end
abbrev pub Closes : Lexeme → Type 0
Closes y = (ys : List Lexeme) → (names_read (y ∷ ys) ≡ ([], y ∷ ys)) × (more_read (y ∷ ys) ≡ ([], y ∷ ys))

-- the names at the front of a text, which are read again from its tokens
pub record NamesIn (read : List Lexeme → List Name × List Lexeme) (names : List Name) (bs rest : List ℕ) : Type 0 where
  pub tokens : List Lexeme
  pub collected : (n : ℕ) → Collected n bs tokens n rest
  pub read_back : (y : Lexeme) (ys : List Lexeme) → Closes y → read (tokens ++ y ∷ ys) ≡ (names, y ∷ ys)

pub name_counted : {a : Name} {x : Lexeme} (n : ℕ) → IsNameOf a x → Brackets n x n
name_counted n as_word = refl
name_counted n as_quoted = refl

name_read : {a : Name} {x : Lexeme} → IsNameOf a x → (xs : List Lexeme) → names_read (x ∷ xs) ≡ name_then a (more_read xs)
name_read as_word xs = refl
name_read as_quoted xs = refl

next_read : {a : Name} {x : Lexeme} → IsNameOf a x → (xs : List Lexeme) → more_read (sign Comma ∷ x ∷ xs) ≡ name_then a (more_read xs)
next_read as_word xs = refl
next_read as_quoted xs = refl

more_names : (names : List Name) (rest : List ℕ) → AreTexts names → is_word (next rest) ≡ false → (next rest == 96) ≡ false → NamesIn more_read names (after_commas (map name_source names) ++ rest) rest
more_names [] rest u e q = record { tokens = []; collected = λ n. no_token; read_back = λ y ys c. (c ys).1 }
more_names (a ∷ names) rest u e q =
    let behind : List ℕ = after_commas (map name_source names) ++ rest in
    let ends = name_ends names rest e q in
    let name = name_again a behind u.0 ends.0 ends.1 in
    let more = more_names names rest u.1 e q in
    let grouped : ((codes ", " ++ name_source a) ++ after_commas (map name_source names)) ++ rest ≡ 44 ∷ 32 ∷ (name_source a ++ behind) = simp append_assoc in
    record {
      tokens = sign Comma ∷ name.token ∷ more.tokens;
      collected = λ n. of_collected_text grouped (one_token {m = n} (first_comma (32 ∷ (name_source a ++ behind))) refl (one_token {m = n} name.found (name_counted n name.is_name) (more.collected n)));
      read_back = λ y ys c. next_read name.is_name (more.tokens ++ y ∷ ys) ∙ ap (name_then a) (more.read_back y ys c);
    }

pub all_names : (names : List Name) (rest : List ℕ) → AreTexts names → is_word (next rest) ≡ false → (next rest == 96) ≡ false → NamesIn names_read names (names_source names ++ rest) rest
all_names [] rest u e q = record { tokens = []; collected = λ n. no_token; read_back = λ y ys c. (c ys).0 }
all_names (a ∷ names) rest u e q =
    let behind : List ℕ = after_commas (map name_source names) ++ rest in
    let ends = name_ends names rest e q in
    let name = name_again a behind u.0 ends.0 ends.1 in
    let more = more_names names rest u.1 e q in
    record {
      tokens = name.token ∷ more.tokens;
      collected = λ n. of_collected_text (append_assoc (name_source a) (after_commas (map name_source names)) rest) (one_token {m = n} name.found (name_counted n name.is_name) (more.collected n));
      read_back = λ y ys c. name_read name.is_name (more.tokens ++ y ∷ ys) ∙ ap (name_then a) (more.read_back y ys c);
    }
