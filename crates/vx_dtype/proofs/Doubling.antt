-- A text whose quotes are doubled, from one quote to the next.
use Rattle.std.proofs.Common.{◌≡◌, ℕ, ◌+◌, ◌<◌, Bool, true, false, not, cond, List, [], ◌∷◌, ◌++◌, length, take, drop, suc, refl, sym, ap, ◌∙◌, append_assoc, arith}
use Rattle.std.specs.Prelude.{◌==◌}
use Rattle.std.specs.List.{position_or_len, before_first, after_first}
use Rattle.vx_dtype.proofs.Choice.{yes, no}
use Rattle.vx_dtype.specs.Quotes.{doubled}

-- a text with a quote in it
pub doubled_at : (q : ℕ) (s : List ℕ) → position_or_len (λ c. c == q) s < length s
    → doubled q s ≡ before_first (λ c. c == q) s ++ (q ∷ q ∷ doubled q (after_first (λ c. c == q) s))
doubled_at q [] h = absurd (omega arith)
doubled_at q (b ∷ bs) h = go (b == q) refl (doubled_at q bs) where
  go : (t : Bool) → (b == q) ≡ t
      → (position_or_len (λ c. c == q) bs < length bs → doubled q bs ≡ before_first (λ c. c == q) bs ++ (q ∷ q ∷ doubled q (after_first (λ c. c == q) bs)))
      → doubled q (b ∷ bs) ≡ before_first (λ c. c == q) (b ∷ bs) ++ (q ∷ q ∷ doubled q (after_first (λ c. c == q) (b ∷ bs)))
  go true e k =
      let further = position_or_len (λ c. c == q) bs in
      let spelled : doubled q (b ∷ bs) ≡ q ∷ q ∷ doubled q bs = yes (b == q) _ _ e in
      let place : position_or_len (λ c. c == q) (b ∷ bs) ≡ 0 = ap (λ t. cond (not t) (1 + further) 0) e in
      spelled ∙ sym (ap (λ n. take n (b ∷ bs) ++ (q ∷ q ∷ doubled q (drop (n + 1) (b ∷ bs)))) place)
  go false e k =
      let further = position_or_len (λ c. c == q) bs in
      let spelled : doubled q (b ∷ bs) ≡ b ∷ doubled q bs = no (b == q) _ _ e in
      let one : 1 + further ≡ suc further = omega arith in
      let place : position_or_len (λ c. c == q) (b ∷ bs) ≡ suc further = ap (λ t. cond (not t) (1 + further) 0) e ∙ one in
      let behind : suc further + 1 ≡ suc (further + 1) = omega arith in
      spelled ∙ ap (λ xs. b ∷ xs) (k (omega arith))
      ∙ sym (ap (λ n. take n (b ∷ bs) ++ (q ∷ q ∷ doubled q (drop (n + 1) (b ∷ bs)))) place ∙ ap (λ n. b ∷ (take further bs ++ (q ∷ q ∷ doubled q (drop n (b ∷ bs))))) behind)

-- a text without one
pub doubled_none : (q : ℕ) (s : List ℕ) → position_or_len (λ c. c == q) s ≡ length s → doubled q s ≡ s
doubled_none q [] h = refl
doubled_none q (b ∷ bs) h = go (b == q) refl (doubled_none q bs) where
  go : (t : Bool) → (b == q) ≡ t → (position_or_len (λ c. c == q) bs ≡ length bs → doubled q bs ≡ bs) → doubled q (b ∷ bs) ≡ b ∷ bs
  go true e k =
      let further = position_or_len (λ c. c == q) bs in
      let place : position_or_len (λ c. c == q) (b ∷ bs) ≡ 0 = ap (λ t. cond (not t) (1 + further) 0) e in absurd (omega arith)
  go false e k =
      let further = position_or_len (λ c. c == q) bs in
      let place : position_or_len (λ c. c == q) (b ∷ bs) ≡ 1 + further = ap (λ t. cond (not t) (1 + further) 0) e in
      no (b == q) _ _ e ∙ ap (λ xs. b ∷ xs) (k (omega arith))

-- a text up to its quote, and the quote twice
pub doubled_step : (q : ℕ) (before front back rest all one two : List ℕ) → position_or_len (λ c. c == q) rest < length rest
    → front ≡ before_first (λ c. c == q) rest → back ≡ after_first (λ c. c == q) rest → one ≡ q ∷ [] → two ≡ q ∷ []
    → before ++ doubled q rest ≡ all → (((before ++ front) ++ one) ++ two) ++ doubled q back ≡ all
doubled_step q before front back rest all one two h f b o t e =
    let here : doubled q rest ≡ front ++ (q ∷ q ∷ doubled q back) = doubled_at q rest h ∙ rw (← f, ← b) refl in
    let grouped : (((before ++ front) ++ (q ∷ [])) ++ (q ∷ [])) ++ doubled q back ≡ before ++ (front ++ (q ∷ q ∷ doubled q back)) = simp append_assoc in
    rw (o, t) (grouped ∙ ap (λ xs. before ++ xs) (sym here) ∙ e)
