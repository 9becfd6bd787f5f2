-- Lists that are written place by place.
use Rattle.std.proofs.Common.{◌≡◌, ◌≢◌, ℕ, ◌+◌, ◌<◌, subst, below_more, get_or-set_other, get_or-set_same, List, length, get_or, refl, sym, ◌∙◌, arith, Result, Ok, Err, IfOk, Vec, Global}
use Rattle.std.proofs.Math.ListN.{set}
use Rattle.std.proofs.lemmas.List.{ext_get_or, get_or_default}

-- one more place
pub filled_more : {A : Type 0} (P : ℕ → A → Type 0) (i : ℕ) (xs : List A) (v : A) → i < length xs → ((k : ℕ) (x : A) → k < i → x ≡ get_or xs k x → P k x) → P i v →
    (k : ℕ) (x : A) → k < i + 1 → x ≡ get_or (set xs i v) k x → P k x
filled_more P i xs v within before here k x lt is =
    below_more (λ k. (x : _) → x ≡ get_or (set xs i v) k x → P k x) i
    (λ k h x is. let apart : k ≢ i = omega arith in before k x h (is ∙ get_or-set_other xs i k v x apart))
    (λ x is. subst (P i) (sym (is ∙ get_or-set_same xs i v x within)) here) k lt x is

-- a list that is another one, place by place
pub written_as : {A : Type 0} (d : A) (n : ℕ) (want new : List A) (post : ℕ → A → Type 0) → length want ≡ n → length new ≡ n → ((k : ℕ) (x : A) → k < n → x ≡ get_or new k d → post k x) → ((k : ℕ) (x : A) → k < n → post k x → x ≡ get_or want k d) → new ≡ want
written_as d n want new post many long each gives =
    ext_get_or d new want (long ∙ sym many) (λ k lt. let within : k < n = omega arith in gives k (get_or new k d) within (each k (get_or new k d) within refl))

-- the same of bits that are made
pub made_as : {A E : Type 0} (d : A) (n : ℕ) (want : List A) (post : ℕ → A → Type 0) (r : Result (List A) E) → length want ≡ n → IfOk r (λ new. length new ≡ n) → IfOk r (λ new. (k : ℕ) (x : A) → k < n → x ≡ get_or new k d → post k x) →
    ((k : ℕ) (x : A) → k < n → post k x → x ≡ get_or want k d) → IfOk r (λ new. new ≡ want)
made_as d n want post (Ok new) many long each gives = written_as d n want new post many long each gives
made_as d n want post (Err e) many long each gives = tt

-- the same of a vector that is filled
pub filled_as : {A E : Type 0} (d : A) (n : ℕ) (want : List A) (post : ℕ → A → Type 0) (r : Result (Vec A Global) E) → length want ≡ n → IfOk r (λ out. length out.items ≡ n) →
    IfOk r (λ out. (i : ℕ) (x : A) → i < n → x ≡ get_or out.items i x → post i x) → ((i : ℕ) (x : A) → i < n → post i x → x ≡ get_or want i d) → IfOk r (λ out. out.items ≡ want)
filled_as d n want post (Ok out) many long each gives =
    ext_get_or d out.items want (long ∙ sym many) (λ i lt. let within : i < n = omega arith in gives i (get_or out.items i d) within (each i (get_or out.items i d) within (get_or_default out.items i d (get_or out.items i d) lt)))
filled_as d n want post (Err e) many long each gives = tt
