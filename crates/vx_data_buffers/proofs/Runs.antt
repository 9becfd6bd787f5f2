-- Results one after another, and one more.
use Rattle.std.proofs.Common.{◌≡◌, ℕ, zero, suc, ◌+◌, ◌-◌, ◌<◌, List, [], ◌∷◌, ◌++◌, map, sym, ap, ◌∙◌, arith, add-one, add-zero, add-suc, ◌⊎◌, inl, inr}
use Rattle.std.specs.Prelude.{Result, Ok, Err}
use Rattle.std.proofs.lemmas.List.{map-append}
use Rattle.vx_value.specs.declared.value.Value.{Value}
use Rattle.vx_value.specs.Types.{Datum}
use Rattle.vx_value.specs.Views.{value_of}
use Rattle.vx_data_buffers.specs.Results.{and_so, each_from}

-- one more value
pub one_more : {A E : Type 0} (f : ℕ → Result A E) (first n : ℕ) (xs : List A) (x : A) → each_from f first n ≡ Ok xs → f (first + n) ≡ Ok x → each_from f first (n + 1) ≡ Ok (xs ++ x ∷ [])
one_more f first n xs x so_far here = rw (add-one, so_far, here)

-- one more value, that of index i
pub pushed : {E : Type 0} (f : ℕ → Result Datum E) (first n m i : ℕ) (values after : List Value) (v : Value) → first + n ≡ i → m ≡ n + 1
    → each_from f first n ≡ Ok (map value_of values) → f i ≡ Ok (value_of v) → after ≡ values ++ v ∷ [] → each_from f first m ≡ Ok (map value_of after)
pushed f first n m i values after v here next so_far read grown =
    ap (each_from f first) next ∙ one_more f first n (map value_of values) (value_of v) so_far (ap f here ∙ read)
    ∙ ap Ok (sym (ap (map value_of) grown ∙ map-append value_of values (v ∷ [])))

-- a refusal stays
stays : {A E : Type 0} (f : ℕ → Result A E) (first n k : ℕ) (e : E) → each_from f first n ≡ Err e → each_from f first (n + k) ≡ Err e
stays f first n zero e stopped = rw (add-zero, stopped)
stays f first n (suc k) e stopped = rw (add-suc, stays f first n k e stopped)

-- the first refusal is that of all
stopped : {A E : Type 0} (f : ℕ → Result A E) (first n m : ℕ) (xs : List A) (e : E) → each_from f first n ≡ Ok xs → f (first + n) ≡ Err e → n < m → each_from f first m ≡ Err e
stopped f first n m xs e so_far here h =
    let at_next : each_from f first (n + 1) ≡ Err e = rw (add-one, so_far, here) in
    let whole : m ≡ n + 1 + (m - (n + 1)) = omega arith in
    ap (each_from f first) whole ∙ stays f first (n + 1) (m - (n + 1)) e at_next

-- where index i is refused, all are, unless it is for the other reason
pub refused : {A E : Type 0} (f : ℕ → Result A E) (first n m i : ℕ) (xs : List A) (e other : E) → first + n ≡ i → n < m
    → each_from f first n ≡ Ok xs → (e ≡ other) ⊎ (f i ≡ Err e) → (e ≡ other) ⊎ (each_from f first m ≡ Err e)
refused f first n m i xs e other here h so_far (inl p) = inl p
refused f first n m i xs e other here h so_far (inr q) = inr (stopped f first n m xs e so_far (ap f here ∙ q) h)

-- a refusal is one of what is made of it
pub refused_so : {A B E : Type 0} (g : A → B) (r : Result A E) (e other : E) → (e ≡ other) ⊎ (r ≡ Err e) → (e ≡ other) ⊎ (and_so r g ≡ Err e)
refused_so g r e other (inl p) = inl p
refused_so g r e other (inr q) = inr (ap (λ x. and_so x g) q)
