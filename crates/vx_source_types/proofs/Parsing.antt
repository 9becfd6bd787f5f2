-- What a whole text comes to, where a place within it is all that is said of a refusal.
use Rattle.std.proofs.Common.{◌≡◌, ◌≤◌, ◌<◌, ℕ, false, ⊎_elim, List, length, drop, Result, Ok, Err, refl, subst, arith}
use Rattle.vx_source_types.specs.declared.error.ParseError.{ParseError}
use Rattle.vx_source_types.specs.declared.error.ParseError.TheVariants.{OutOfMemory, Unexpected}
use Rattle.vx_source_types.specs.Tokens.{Lexeme, skip, first}
use Rattle.vx_source_types.specs.Reading.{Goes, more, Step, Leads, stops_at, IsRead, Parses, Gives}
use Rattle.vx_source_types.proofs.Reading.{read_once, read_or_stopped, forward}
use Rattle.vx_source_types.specs.ScalarReading.{ScalarState, scalar_step, ReadsFrom, ParsesWithin}
use Rattle.vx_source_types.proofs.ScalarEnds.{end_stops}

pub parses_as : {S A B : Type 0} (step : Step S B) {s : S} {bs : List ℕ} (view : A → B) (r : Result A ParseError) (a : B) → ParsesWithin step s bs view r → IsRead step s bs a → Gives view r a
parses_as step view (Ok x) a h k = read_once step h k
parses_as step view (Err OutOfMemory) a h k = refl
parses_as step view (Err (Unexpected at e)) a h k = absurd (read_or_stopped step k h.1.1)

-- a place that is known is one within the text
pub within_of : {S A B : Type 0} (step : Step S B) (s : S) (bs : List ℕ) (view : A → B) (r : Result A ParseError) → Parses step s bs view r → ParsesWithin step s bs view r
within_of step s bs view (Ok x) h = h
within_of step s bs view (Err OutOfMemory) h = tt
within_of step s bs view (Err (Unexpected at e)) h = (h.0, (drop at bs, h.1))

-- a token that is no part of what is read, at its place or where the value begins
pub stopped_from : {S A B T : Type 0} (step : Step S B) {s u : S} {bs cs : List ℕ} {x : Lexeme} (view : A → B) (other : T → Goes S B) (error : ParseError) (begun from at : ℕ)
    → Leads step s bs u (drop from bs) → first (drop from bs) ≡ (x, cs) → ReadsFrom begun at other (Err error) (step u x) → at ≤ length bs → begun ≤ length bs
    → ParsesWithin step s bs view (Err error)
stopped_from step view other OutOfMemory begun from at h p q l m = tt
stopped_from step {bs = bs} view other (Unexpected place e) begun from at h p q l m =
    (⊎_elim (λ (i : place ≡ at). omega arith) (λ (i : place ≡ begun). omega arith) q.0, (skip false (drop from bs), stops_at h p q.1))

-- a token that is a part of a scalar takes some of the text
pub takes_some : (room : ℕ) (s u : ScalarState) (bs : List ℕ) (from at to : ℕ) (x : Lexeme) (cs : List ℕ) → first (drop from bs) ≡ (x, cs) → drop at bs ≡ skip false (drop from bs)
    → from ≤ at → at ≤ to → (at < length bs → at < to) → scalar_step room s x ≡ Ok (more u) → from < to
takes_some room s u bs from at to x cs p q h k l e =
    forward bs from at to x cs p q h k l (λ n. end_stops room s u (subst (λ y. scalar_step room s y ≡ Ok (more u)) n e))
