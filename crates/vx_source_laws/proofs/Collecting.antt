-- The tokens of a function's options, up to the bracket that closes them.
use Rattle.std.proofs.Common.{◌≡◌, ℕ, zero, suc, ◌+◌, List, [], ◌∷◌, ◌++◌, Result, Ok, Err, refl, sym, ap, ◌∙◌, subst, append_assoc, append-nil, arith}
use Rattle.vx_value.specs.Types.{Name}
use Rattle.vx_source_types.specs.declared.expectation.Expected.{Expected}
use Rattle.vx_source_types.specs.declared.expectation.Expected.TheVariants.{CloseBracket as TheBracket}
use Rattle.vx_source_types.specs.declared.token.Sign.TheVariants.{OpenBracket, CloseBracket}
use Rattle.vx_source_types.specs.Tokens.{Lexeme, sign, end, invalid, first}
use Rattle.vx_source_types.specs.Reading.{Goes as Answer, Step, refused, more, done, Leads, stays, leads}
use Rattle.vx_source_grammar.specs.Beginning.{options_at}
use Rattle.vx_source_grammar.specs.OptionReading.{read_all}
use Rattle.vx_source_grammar.specs.States.{Frame, in_options}
use Rattle.vx_source_laws.proofs.TreesRead.{at, Goes}

-- how many brackets are open before the token and behind it; the end is no part of options
abbrev pub Brackets : ℕ → Lexeme → ℕ → Type 0
Brackets n (sign OpenBracket) m = m ≡ n + 1
Brackets n (sign CloseBracket) m = n ≡ m + 1
Brackets n end m = ⊥
Brackets n (invalid e) m = ⊥
Brackets n x m = m ≡ n

-- the tokens at the front of a text, with the brackets that are open before and behind them
pub data Collected : ℕ → List ℕ → List Lexeme → ℕ → List ℕ → Type 0 where
  no_token : {n : ℕ} {bs : List ℕ} → Collected n bs [] n bs
  one_token : {n m k : ℕ} {bs cs ds : List ℕ} {x : Lexeme} {xs : List Lexeme} → first bs ≡ (x, cs) → Brackets n x m → Collected m cs xs k ds → Collected n bs (x ∷ xs) k ds

pub collected_then : {n m k : ℕ} {bs cs ds : List ℕ} {xs ys : List Lexeme} → Collected n bs xs m cs → Collected m cs ys k ds → Collected n bs (xs ++ ys) k ds
collected_then no_token h = h
collected_then (one_token p b g) h = one_token p b (collected_then g h)

pub of_collected_text : {n k : ℕ} {bs cs ds : List ℕ} {xs : List Lexeme} → bs ≡ cs → Collected n cs xs k ds → Collected n bs xs k ds
of_collected_text {n} {k} {bs} {cs} {ds} {xs} q h = subst (λ zs. Collected n zs xs k ds) (sym q) h

-- one more token of options
option_taken : (fs : List Frame) (r : ℕ) (b : Name) (xs : List Lexeme) (less n m : ℕ) (x : Lexeme) → Brackets n x m → options_at fs r b xs n less x ≡ Ok (more (at fs (in_options b (xs ++ x ∷ []) m less) r))
option_taken fs r b xs less n m (sign OpenBracket) p = ap (λ k. Ok (more (at fs (in_options b (xs ++ sign OpenBracket ∷ []) k less) r))) (sym p)
option_taken fs r b xs less zero m (sign CloseBracket) p = absurd (omega arith)
option_taken fs r b xs less (suc n) m (sign CloseBracket) p = let same : n ≡ m = omega arith in ap (λ k. Ok (more (at fs (in_options b (xs ++ sign CloseBracket ∷ []) k less) r))) same
option_taken fs r b xs less n m end p = absurd p
option_taken fs r b xs less n m (invalid e) p = absurd p
option_taken fs r b xs less n m x p = ap (λ k. Ok (more (at fs (in_options b (xs ++ x ∷ []) k less) r))) (sym p)

pub options_collected : {n k : ℕ} {bs ds : List ℕ} {ys : List Lexeme} (fs : List Frame) (r : ℕ) (b : Name) (xs : List Lexeme) (less : ℕ) → Collected n bs ys k ds
    → Goes (at fs (in_options b xs n less) r) bs (at fs (in_options b (xs ++ ys) k less) r) ds
options_collected {n} {bs = bs} fs r b xs less no_token = subst (λ zs. Goes (at fs (in_options b xs n less) r) bs (at fs (in_options b zs n less) r) bs) (sym (append-nil xs)) stays
options_collected {n} {k} {bs} {ds} fs r b xs less (one_token {m = m} {x = x} {xs = ys} p q h) =
    subst (λ zs. Goes (at fs (in_options b xs n less) r) bs (at fs (in_options b zs k less) r) ds) (append_assoc xs (x ∷ []) ys)
    (leads p (option_taken fs r b xs less n m x q) (options_collected fs r b (xs ++ x ∷ []) less h))

-- ---- what is read is collected

-- the tokens at the front of a text, which make another state of one
pub data Taken {S A : Type 0} (step : Step S A) : ℕ → S → List ℕ → List Lexeme → ℕ → S → List ℕ → Type 0 where
  none_taken : {n : ℕ} {s : S} {bs : List ℕ} → Taken step n s bs [] n s bs
  one_taken : {n m k : ℕ} {s t u : S} {bs cs ds : List ℕ} {x : Lexeme} {xs : List Lexeme} → first bs ≡ (x, cs) → step s x ≡ Ok (more t) → Brackets n x m → Taken step m t cs xs k u ds → Taken step n s bs (x ∷ xs) k u ds

pub taken_then : {S A : Type 0} (step : Step S A) {n m k : ℕ} {s t u : S} {bs cs ds : List ℕ} {xs ys : List Lexeme} → Taken step n s bs xs m t cs → Taken step m t cs ys k u ds → Taken step n s bs (xs ++ ys) k u ds
taken_then step none_taken h = h
taken_then step (one_taken p q b g) h = one_taken p q b (taken_then step g h)

pub collected_of : {S A : Type 0} (step : Step S A) {n k : ℕ} {s u : S} {bs ds : List ℕ} {xs : List Lexeme} → Taken step n s bs xs k u ds → Collected n bs xs k ds
collected_of step none_taken = no_token
collected_of step (one_taken p q b g) = one_token p b (collected_of step g)

-- one token of what is read as a whole
one_read : {S A : Type 0} (step : Step S A) (s t : S) (x : Lexeme) (xs : List Lexeme) → step s x ≡ Ok (more t) → read_all step s (x ∷ xs) ≡ read_all step t xs
one_read {S} {A} step s t x xs q = ap after q where
  after : Result (Answer S A) Expected → Result A Expected
  after o = elim o [ Ok g ↦ elim g [ more v ↦ read_all step v xs | done a ↦ refused x TheBracket ] | Err e ↦ Err e ]

pub read_of : {S A : Type 0} (step : Step S A) {n k : ℕ} {s u : S} {bs ds : List ℕ} {xs : List Lexeme} → Taken step n s bs xs k u ds → read_all step s xs ≡ read_all step u []
read_of step none_taken = refl
read_of step (one_taken {s = s} {t = t} {x = x} {xs = xs} p q b g) = one_read step s t x xs q ∙ read_of step g

-- where what is read is part of something else
pub embedded : {S A T B : Type 0} (step : Step S A) (outer : Step T B) (embed : S → T) (count : S → ℕ) {s u : S} {bs ds : List ℕ}
    → ((v t : S) (x : Lexeme) → step v x ≡ Ok (more t) → outer (embed v) x ≡ Ok (more (embed t))) → ((v t : S) (x : Lexeme) → step v x ≡ Ok (more t) → Brackets (count v) x (count t))
    → Leads step s bs u ds → (xs : List Lexeme) × Taken outer (count s) (embed s) bs xs (count u) (embed u) ds
embedded step outer embed count goes counts stays = ([], none_taken)
embedded step outer embed count {s = s} goes counts (leads {t = t} {x = x} p q h) = let more_taken = embedded step outer embed count goes counts h in (x ∷ more_taken.0, one_taken p (goes s t x q) (counts s t x q) more_taken.1)
