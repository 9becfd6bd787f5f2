-- What several tokens say, one after another.
use Rattle.std.proofs.Common.{◌≡◌, ℕ, ◌+◌, ◌<◌, List, ◌∷◌, length, get_or, drop, Result, Ok, Err, sym, ap, ◌∙◌, refl}
use Rattle.std.proofs.lemmas.List.{at_drop_more}
use Rattle.vx_source_types.specs.declared.error.ParseError.{ParseError}
use Rattle.vx_source_types.specs.declared.error.ParseError.TheVariants.{OutOfMemory, Unexpected}
use Rattle.vx_source_types.specs.declared.expectation.Expected.{Expected}
use Rattle.vx_source_types.specs.declared.expectation.Expected.TheVariants.{CloseBracket as TheBracket}
use Rattle.vx_source_types.specs.declared.first.Found.{Found}
use Rattle.vx_source_types.specs.Tokens.{Lexeme}
use Rattle.vx_source_types.specs.Reading.{Goes, more, done, Step, refused}
use Rattle.vx_source_grammar.specs.OptionReading.{read_all}
use Rattle.vx_source_operands.specs.Places.{ReadsUpTo}
use Rattle.vx_source_operands.specs.OperandViews.{lexeme_in, lexemes_of}
use Rattle.vx_source_operands.specs.Parts.{goes_on}

abbrev pub behind : {S A : Type 0} → Step S A → List Lexeme → Result S Expected → Result A Expected
behind step xs (Ok s) = read_all step s xs
behind step xs (Err e) = Err e

one_of : {S A : Type 0} (step : Step S A) (x : Lexeme) (xs : List Lexeme) (r : Result (Goes S A) Expected)
    → (elim r as (λ _. Result A Expected) [
      | Ok g ↦ elim g as (λ _. Result A Expected) [ more t ↦ read_all step t xs | done a ↦ refused x TheBracket ]
      | Err e ↦ Err e
    ]) ≡ behind step xs (goes_on x r)
one_of step x xs (Ok (more t)) = refl
one_of step x xs (Ok (done a)) = refl
one_of step x xs (Err e) = refl

one : {S A : Type 0} (step : Step S A) (s : S) (x : Lexeme) (xs : List Lexeme) → read_all step s (x ∷ xs) ≡ behind step xs (goes_on x (step s x))
one step s x xs = one_of step x xs (step s x)

-- the token at that place, and those behind it
pub next : {S A : Type 0} (step : Step S A) (s : S) (tokens : List Found) (i : ℕ) (x : Found) → i < length tokens → x ≡ get_or tokens i x
    → read_all step s (lexemes_of (drop i tokens)) ≡ behind step (lexemes_of (drop (i + 1) tokens)) (goes_on (lexeme_in x) (step s (lexeme_in x)))
next step s tokens i x h is =
    at_drop_more (λ xs. read_all step s (lexemes_of xs)) tokens i x h
    ∙ (ap (λ y. read_all step s (lexeme_in y ∷ lexemes_of (drop (i + 1) tokens))) (sym is) ∙ one step s (lexeme_in x) (lexemes_of (drop (i + 1) tokens)))

-- a token is a part of what is read
pub goes_behind : {S A R : Type 0} (step : Step S A) (view : R → S) (t : R) (xs : List Lexeme) (r : Result S Expected) (said : Result A Expected)
    → said ≡ behind step xs r → r ≡ Ok (view t) → said ≡ read_all step (view t) xs
goes_behind step view t xs r said is h = is ∙ ap (behind step xs) h

-- a token is refused
pub stopped : {S A R B : Type 0} (step : Step S A) (view : R → S) (shown : B → A) (at : ℕ) (e : ParseError) (xs : List Lexeme) (r : Result S Expected)
    (said : Result A Expected) → said ≡ behind step xs r → ReadsUpTo at view (Err e) r → ReadsUpTo at shown (Err e) said
stopped step view shown at OutOfMemory xs r said is h = tt
stopped step view shown at (Unexpected place k) xs r said is h = (h.0, is ∙ ap (behind step xs) h.1)
