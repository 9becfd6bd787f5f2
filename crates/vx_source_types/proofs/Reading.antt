-- Reading goes one way: what it comes to is the only thing that it comes to.
use Rattle.std.proofs.Common.{◌≡◌, ℕ, ◌<◌, ◌≤◌, false, ⊎_elim, List, [], length, drop, drop_of_length-le, Result, Ok, Err, refl, sym, ap, ◌∙◌, subst, arith}
use Rattle.std.proofs.lemmas.Bool.{cases_lt}
use Rattle.vx_source_types.specs.declared.error.ParseError.{ParseError}
use Rattle.vx_source_types.specs.declared.error.ParseError.TheVariants.{OutOfMemory, Unexpected}
use Rattle.vx_source_types.specs.declared.expectation.Expected.{Expected}
use Rattle.vx_source_types.specs.Tokens.{Lexeme, end, Taken, skip, token_at, first}
use Rattle.vx_source_types.specs.Reading.{Goes, more, done, Step, Leads, stays, leads, IsRead, is_read, Stops, stops_at, stops_behind, ReadsAt, whole_text, Parses, Gives}

pub then : {S A : Type 0} (step : Step S A) {s t u : S} {bs cs ds : List ℕ} → Leads step s bs t cs → Leads step t cs u ds → Leads step s bs u ds
then step stays k = k
then step (leads p q h) k = leads p q (then step h k)

pub one_more : {S A : Type 0} (step : Step S A) {s t u : S} {bs cs ds : List ℕ} {x : Lexeme} → Leads step s bs t cs → first cs ≡ (x, ds) → step t x ≡ Ok (more u) → Leads step s bs u ds
one_more step h p q = then step h (leads p q stays)

-- a text that is grouped otherwise
pub of_text : {S A : Type 0} (step : Step S A) {s u : S} {bs cs ds : List ℕ} → bs ≡ cs → Leads step s cs u ds → Leads step s bs u ds
of_text step {s} {u} {bs} {cs} {ds} e h = subst (λ xs. Leads step s xs u ds) (sym e) h

-- the first token of a text, and what is left behind it, are the only ones
same_token : (bs : List ℕ) (x y : Lexeme) (cs es : List ℕ) → first bs ≡ (x, cs) → first bs ≡ (y, es) → x ≡ y
same_token bs x y cs es p q = sym (ap (λ (t : Taken). t.0) p) ∙ ap (λ (t : Taken). t.0) q

same_rest : (bs : List ℕ) (x y : Lexeme) (cs es : List ℕ) → first bs ≡ (x, cs) → first bs ≡ (y, es) → cs ≡ es
same_rest bs x y cs es p q = sym (ap (λ (t : Taken). t.1) p) ∙ ap (λ (t : Taken). t.1) q

-- no token is taken there
abbrev Halts : {S A : Type 0} (step : Step S A) → S → List ℕ → Type 0
Halts {S} {A} step u ds = (x : Lexeme) (cs : List ℕ) (t : S) → first ds ≡ (x, cs) → step u x ≡ Ok (more t) → ⊥

agree : {S A : Type 0} (step : Step S A) {s u v : S} {bs ds es : List ℕ} → Leads step s bs u ds → Leads step s bs v es → Halts step u ds → Halts step v es → (u ≡ v) × (ds ≡ es)
agree step stays stays p q = (refl, refl)
agree step stays (leads {t = t} {cs = cs} {x = x} e f h) p q = absurd (p x cs t e f)
agree step (leads {t = t} {cs = cs} {x = x} e f h) stays p q = absurd (q x cs t e f)
agree step {v = v} {bs = bs} {es = es} (leads {t = t} {cs = cs} {x = x} e f h) (leads {t = w} {cs = ds} {x = y} d g k) p q =
    let same : x ≡ y = same_token bs x y cs ds e d in
    let next : w ≡ t = cc in
    let rest : ds ≡ cs = same_rest bs y x ds cs d e in
    agree step h (subst (λ z. Leads step z cs v es) next (subst (λ z. Leads step w z v es) rest k)) p q

halts_done : {S A : Type 0} (step : Step S A) {u : S} (ds : List ℕ) {cs : List ℕ} {x : Lexeme} {a : A} → first ds ≡ (x, cs) → step u x ≡ Ok (done a) → Halts step u ds
halts_done step ds {cs} {x} p q = λ y es t f g. let same : x ≡ y = same_token ds x y cs es p f in (cc)

halts_err : {S A : Type 0} (step : Step S A) {u : S} (ds : List ℕ) {cs : List ℕ} {x : Lexeme} {e : Expected} → first ds ≡ (x, cs) → step u x ≡ Err e → Halts step u ds
halts_err step ds {cs} {x} p q = λ y es t f g. let same : x ≡ y = same_token ds x y cs es p f in (cc)

-- a text is read as one thing alone
pub read_once : {S A : Type 0} (step : Step S A) {s : S} {bs : List ℕ} {a b : A} → IsRead step s bs a → IsRead step s bs b → a ≡ b
read_once step {a = a} {b = b} (is_read {u = u} {ds = ds} h p q) (is_read {u = v} {ds = es} k f g) =
    let state : u ≡ v = (agree step h k (halts_done step ds p q) (halts_done step es f g)).0 in cc

-- what is read doesn't stop
pub read_or_stopped : {S A : Type 0} (step : Step S A) {s : S} {bs ds : List ℕ} {a : A} {e : Expected} → IsRead step s bs a → ¬ (Stops step s bs ds e)
read_or_stopped step (is_read {u = u} {ds = ds} {cs = cs} h p q) (stops_at {u = v} {ds = es} {cs = cs'} {x = x} k f g) =
    let same = agree step h k (halts_done step ds p q) (halts_err step es f g) in
    let state : u ≡ v = same.0 in
    let last : end ≡ x = same_token es end x cs cs' (subst (λ z. first z ≡ (end, cs)) same.1 p) f in cc
read_or_stopped step (is_read {u = u} {ds = ds} {cs = cs} h p q) (stops_behind {u = v} {ds = es} {cs = cs'} {x = x} {a = b} {e = e} k f g w) =
    let same = agree step h k (halts_done step ds p q) (halts_done step es f g) in
    let last : end ≡ x = same_token es end x cs cs' (subst (λ z. first z ≡ (end, cs)) same.1 p) f in
    let whole : whole_text b end ≡ Err e = subst (λ z. whole_text b z ≡ Err e) (sym last) w in cc

-- what a text comes to is what it is read as
pub parses_as : {S A B : Type 0} (step : Step S B) {s : S} {bs : List ℕ} (view : A → B) (r : Result A ParseError) (a : B) → Parses step s bs view r → IsRead step s bs a → Gives view r a
parses_as step view (Ok x) a h k = read_once step h k
parses_as step view (Err OutOfMemory) a h k = refl
parses_as step view (Err (Unexpected at e)) a h k = absurd (read_or_stopped step k h.1)

-- ---- one token after another

-- at the end of a text stands nothing but its end
nothing_left : (bs rest : List ℕ) → rest ≡ skip false bs → rest ≡ [] → first bs ≡ (end, [])
nothing_left bs rest p q = ap token_at (sym p ∙ q)

-- a token that isn't the end takes some of the text
pub forward : (bs : List ℕ) (from at to : ℕ) (x : Lexeme) (cs : List ℕ) → first (drop from bs) ≡ (x, cs) → drop at bs ≡ skip false (drop from bs)
    → from ≤ at → at ≤ to → (at < length bs → at < to) → ¬ (x ≡ end) → from < to
forward bs from at to x cs p q h k l n = ⊎_elim (λ (a : from < to). a) (λ (b : to ≤ from). absurd (ended b)) (cases_lt from to) where
  ended : to ≤ from → ⊥
  ended b =
      let all : length bs ≤ at = ⊎_elim (λ (a : at < length bs). let m = l a in absurd (omega arith)) (λ (c : length bs ≤ at). c) (cases_lt at (length bs)) in
      let none : drop at bs ≡ [] = drop_of_length-le bs all in
      let last = nothing_left (drop from bs) (drop at bs) q none in
      n (same_token (drop from bs) x end cs [] p last)

-- ---- how reading ends

-- a token that is no part of what is read, at its place
pub stopped : {S A B T : Type 0} (step : Step S B) {s u : S} {bs cs : List ℕ} {x : Lexeme} (view : A → B) (other : T → Goes S B) (error : ParseError) (from at : ℕ)
    → Leads step s bs u (drop from bs) → first (drop from bs) ≡ (x, cs) → ReadsAt at other (Err error) (step u x) → at ≤ length bs → drop at bs ≡ skip false (drop from bs)
    → Parses step s bs view (Err error)
stopped step view other OutOfMemory from at h p q l r = tt
stopped step {s} {u} {bs} {cs} {x} view other (Unexpected place e) from at h p q l r =
    let here : place ≡ at = q.0 in
    (omega arith, subst (λ k. Stops step s bs (drop k bs) e) (sym here) (subst (λ ds. Stops step s bs ds e) (sym r) (stops_at h p q.1)))

-- what is read, where the text has ended behind it
pub finished : {S A B : Type 0} (step : Step S B) {s u : S} {bs cs : List ℕ} (view : A → B) (r : Result A ParseError) (x : Lexeme) (a : B) (from at : ℕ)
    → Leads step s bs u (drop from bs) → first (drop from bs) ≡ (x, cs) → step u x ≡ Ok (done a) → ReadsAt at view r (whole_text a x) → at ≤ length bs → drop at bs ≡ skip false (drop from bs)
    → Parses step s bs view r
finished step {s} {u} {bs} view (Ok y) end a from at h p q w l r = let same : a ≡ view y = cc in subst (λ b. IsRead step s bs b) same (is_read h p q)
finished step view (Ok y) _ a from at h p q w l r = cc
finished step view (Err OutOfMemory) x a from at h p q w l r = tt
finished step {s} {u} {bs} {cs} view (Err (Unexpected place e)) x a from at h p q w l r =
    let here : place ≡ at = w.0 in
    (omega arith, subst (λ k. Stops step s bs (drop k bs) e) (sym here) (subst (λ ds. Stops step s bs ds e) (sym r) (stops_behind h p q w.1)))
