-- Places of a text at which the parts that are left may begin.
use Rattle.std.proofs.Common.{◌≡◌, ℕ, ◌+◌, ◌<◌, ◌≤◌, List, [], ◌∷◌, suc, length, get_or, refl, sym, ap, ◌∙◌, arith, Bool, true, false, ◌&&◌, ◌||◌}
use Rattle.vx_fn.specs.Values.{Part, any_text, any_one, just, matches, some_rest}
use Rattle.vx_eval_like.specs.Patterns.{is_any_text, takes}
use Rattle.vx_array_kernels.specs.Reach.{alive}

or_assoc : (a b c : Bool) → ((a || b) || c) ≡ (a || (b || c))
or_assoc true b c = refl
or_assoc false b c = refl

and_assoc : (a b c : Bool) → ((a && b) && c) ≡ (a && (b && c))
and_assoc true b c = refl
and_assoc false b c = refl

or_none : (a : Bool) → (a || false) ≡ a
or_none true = refl
or_none false = refl

and_none : (a : Bool) → (a && false) ≡ false
and_none true = refl
and_none false = refl

-- no place
none_alive : (f : ℕ → Bool) (ps : List Part) (t : List ℕ) → ((k : ℕ) → k ≤ length t → f k ≡ false) → alive f ps t ≡ false
none_alive f ps [] none = ap (λ b. b && matches ps []) (none 0 (omega arith))
none_alive f ps (c ∷ t) none = ap (λ b. (b && matches ps (c ∷ t)) || alive (λ k. f (k + 1)) ps t) (none 0 (omega arith)) ∙ none_alive (λ k. f (k + 1)) ps t (λ k le. none (k + 1) (omega arith))

-- the first place alone
pub first_alive : (f : ℕ → Bool) (ps : List Part) (t : List ℕ) → f 0 ≡ true → ((k : ℕ) → k < length t → f (k + 1) ≡ false) → alive f ps t ≡ matches ps t
first_alive f ps [] first rest = ap (λ b. b && matches ps []) first
first_alive f ps (c ∷ t) first rest =
    ap (λ b. (b && matches ps (c ∷ t)) || alive (λ k. f (k + 1)) ps t) first ∙ ap (λ b. matches ps (c ∷ t) || b) (none_alive (λ k. f (k + 1)) ps t (λ k le. rest k (omega arith))) ∙ or_none (matches ps (c ∷ t))

one_more : (n : ℕ) → n + 1 ≡ suc n
one_more n = omega arith

-- no parts are left
pub end_alive : (f : ℕ → Bool) (t : List ℕ) → alive f [] t ≡ f (length t)
end_alive f [] = and_true (f 0)
  where
    and_true : (b : Bool) → (b && true) ≡ b
    and_true true = refl
    and_true false = refl
end_alive f (c ∷ t) = ap (λ b. b || alive (λ k. f (k + 1)) [] t) (and_none (f 0)) ∙ end_alive (λ k. f (k + 1)) t ∙ ap f (one_more (length t))

-- a part for one character
matches_one : (p : Part) (ps : List Part) (c : ℕ) (t : List ℕ) → is_any_text p ≡ false → matches (p ∷ ps) (c ∷ t) ≡ (takes p c && matches ps t)
matches_one any_text ps c t one = cc
matches_one any_one ps c t one = refl
matches_one (just d) ps c t one = refl

matches_end : (p : Part) (ps : List Part) → is_any_text p ≡ false → matches (p ∷ ps) [] ≡ false
matches_end any_text ps one = cc
matches_end any_one ps one = refl
matches_end (just d) ps one = refl

pub one_alive : (p : Part) (ps : List Part) (f g : ℕ → Bool) (t : List ℕ) → is_any_text p ≡ false → ((k : ℕ) → k < length t → g (k + 1) ≡ (f k && takes p (get_or t k 0))) → alive g ps t ≡ ((g 0 && matches ps t) || alive f (p ∷ ps) t)
one_alive p ps f g [] one next = sym (ap (λ b. (g 0 && matches ps []) || (f 0 && b)) (matches_end p ps one) ∙ ap (λ b. (g 0 && matches ps []) || b) (and_none (f 0)) ∙ or_none (g 0 && matches ps []))
one_alive p ps f g (c ∷ t) one next =
    let later = one_alive p ps (λ k. f (k + 1)) (λ k. g (k + 1)) t one (λ k lt. next (k + 1) (omega arith) ∙ ap (λ i. f (k + 1) && takes p (get_or (c ∷ t) i 0)) (one_more k)) in
    let here : (g 1 && matches ps t) ≡ (f 0 && matches (p ∷ ps) (c ∷ t)) =
    ap (λ b. b && matches ps t) (next 0 (omega arith)) ∙ and_assoc (f 0) (takes p c) (matches ps t) ∙ ap (λ b. f 0 && b) (sym (matches_one p ps c t one)) in
    ap (λ b. (g 0 && matches ps (c ∷ t)) || b) (later ∙ ap (λ b. b || alive (λ k. f (k + 1)) (p ∷ ps) t) here)

-- any text
any_of : (before here now later rest : Bool) → (((before || here) && now) || (((before || here) && later) || rest)) ≡ ((before && (now || later)) || ((here && (now || later)) || rest))
any_of true here true later rest = refl
any_of true here false true rest = refl
any_of true true false false rest = refl
any_of true false false false rest = refl
any_of false true true later rest = refl
any_of false true false later rest = refl
any_of false false now later rest = refl

pub any_alive : (before : Bool) (ps : List Part) (f g : ℕ → Bool) (t : List ℕ) → g 0 ≡ (before || f 0) → ((k : ℕ) → k < length t → g (k + 1) ≡ (g k || f (k + 1))) → alive g ps t ≡ ((before && some_rest (matches ps) t) || alive f (any_text ∷ ps) t)
any_alive before ps f g [] first next = ap (λ b. b && matches ps []) first ∙ dist before (f 0) (matches ps [])
  where
    dist : (a b c : Bool) → ((a || b) && c) ≡ ((a && c) || (b && c))
    dist true b true = refl
    dist true true false = refl
    dist true false false = refl
    dist false b c = refl
any_alive before ps f g (c ∷ t) first next =
    let later = any_alive (g 0) ps (λ k. f (k + 1)) (λ k. g (k + 1)) t (next 0 (omega arith)) (λ k lt. next (k + 1) (omega arith)) in
    ap (λ b. (g 0 && matches ps (c ∷ t)) || b) later
    ∙ ap (λ b. (b && matches ps (c ∷ t)) || ((b && some_rest (matches ps) t) || alive (λ k. f (k + 1)) (any_text ∷ ps) t)) first
    ∙ any_of before (f 0) (matches ps (c ∷ t)) (some_rest (matches ps) t) (alive (λ k. f (k + 1)) (any_text ∷ ps) t)
