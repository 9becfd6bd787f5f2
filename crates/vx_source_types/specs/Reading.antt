-- A text is read token by token: each token makes something else of what is read so far, or comes behind it.
use Rattle.std.specs.Prelude.{◌≡◌, ◌≤◌, ℕ, false, List, length, drop, Result, Ok, Err, MatchResult}
use Rattle.vx_source_types.specs.declared.error.ParseError.{ParseError}
use Rattle.vx_source_types.specs.declared.error.ParseError.TheVariants.{OutOfMemory, Unexpected}
use Rattle.vx_source_types.specs.declared.expectation.Expected.{Expected}
use Rattle.vx_source_types.specs.declared.expectation.Expected.TheVariants.{End as TheEnd}
use Rattle.vx_source_types.specs.Tokens.{Lexeme, end, invalid, skip, first}

-- a token is a part of what is read, or that has ended before it
pub data Goes (S A : Type 0) : Type 0 where
  more : S → Goes S A
  done : A → Goes S A

-- what a token makes of what is read so far, or what would have stood right
abbrev pub Step : Type 0 → Type 0 → Type 0
Step S A = S → Lexeme → Result (Goes S A) Expected

-- what would have stood right: in the token itself, or in its place
abbrev pub wanted_at : Lexeme → Expected → Expected
wanted_at (invalid inner) wanted = inner
wanted_at _ wanted = wanted

abbrev pub refused : {A : Type 0} → Lexeme → Expected → Result A Expected
refused x wanted = Err (wanted_at x wanted)

-- what has ended before a token is the whole of the text only where the text has ended
abbrev pub whole_text : {A : Type 0} → A → Lexeme → Result A Expected
whole_text a end = Ok a
whole_text a x = refused x TheEnd

-- some tokens at the front of bs lead from s to u, and ds is left behind them
pub data Leads {S A : Type 0} (step : Step S A) : S → List ℕ → S → List ℕ → Type 0 where
  stays : {s : S} {bs : List ℕ} → Leads step s bs s bs
  leads : {s t u : S} {bs cs ds : List ℕ} {x : Lexeme} → first bs ≡ (x, cs) → step s x ≡ Ok (more t) → Leads step t cs u ds → Leads step s bs u ds

-- a text, from s on, is read as a whole
pub data IsRead {S A : Type 0} (step : Step S A) : S → List ℕ → A → Type 0 where
  is_read : {s u : S} {bs ds cs : List ℕ} {a : A} → Leads step s bs u ds → first ds ≡ (end, cs) → step u end ≡ Ok (done a) → IsRead step s bs a

-- reading a text, from s on, stops in front of ds, since its first token is no part of what is read, or comes behind it
pub data Stops {S A : Type 0} (step : Step S A) : S → List ℕ → List ℕ → Expected → Type 0 where
  stops_at : {s u : S} {bs ds cs : List ℕ} {x : Lexeme} {e : Expected} → Leads step s bs u ds → first ds ≡ (x, cs) → step u x ≡ Err e → Stops step s bs (skip false ds) e
  stops_behind : {s u : S} {bs ds cs : List ℕ} {x : Lexeme} {a : A} {e : Expected} → Leads step s bs u ds → first ds ≡ (x, cs) → step u x ≡ Ok (done a) → whole_text a x ≡ Err e → Stops step s bs (skip false ds) e

-- the call gave what is said, seen by view, or stopped at that place for the same reason, unless memory ran out
abbrev pub ReadsAt : {A B : Type 0} → ℕ → (A → B) → Result A ParseError → Result B Expected → Type 0
ReadsAt at view (Ok x) said = said ≡ Ok (view x)
ReadsAt at view (Err OutOfMemory) said = Unit {0}
ReadsAt at view (Err (Unexpected place e)) said = (place ≡ at) × (said ≡ Err e)

-- what a whole text comes to: what is read, seen by view, or where it stops and what would have stood right there, unless
-- memory ran out
abbrev pub Parses : {S A B : Type 0} → Step S B → S → List ℕ → (A → B) → Result A ParseError → Type 0
Parses step s bs view (Ok x) = IsRead step s bs (view x)
Parses step s bs view (Err OutOfMemory) = Unit {0}
Parses step s bs view (Err (Unexpected at e)) = (at ≤ length bs) × Stops step s bs (drop at bs) e

-- the call gave that, seen by view, unless memory ran out
abbrev pub Gives : {A B : Type 0} → (A → B) → Result A ParseError → B → Type 0
Gives view result said = MatchResult result (λ x. view x ≡ said) (λ e. e ≡ OutOfMemory)
