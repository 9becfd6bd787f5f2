-- What reading answers, and results one after another.
use Rattle.std.specs.Prelude.{◌≡◌, ◌⊎◌, ℕ, suc, zero, ◌+◌, List, [], ◌∷◌, ◌++◌, Result, Ok, Err, MatchResult}
use Rattle.vx_data_buffers.specs.declared.error.BufferError.{BufferError}
use Rattle.vx_data_buffers.specs.declared.fault.Fault.{Fault}

-- the call gave what is said, seen by view, or its refusal, unless it refused with that one
abbrev pub ReturnsBut : {A B E : Type 0} → E → (A → B) → Result A E → Result B E → Type 0
ReturnsBut except view result said = MatchResult result (λ x. said ≡ Ok (view x)) (λ e. (e ≡ except) ⊎ (said ≡ Err e))

-- what is said was read, seen by view, unless memory ran out
abbrev pub Reads : {A B : Type 0} → (A → B) → Result A Fault → Result B Fault → Type 0
Reads = ReturnsBut Fault.OutOfMemory

-- the call gave what is said, seen by view, unless memory ran out
abbrev pub BufferReturnsOrOom : {A B : Type 0} → (A → B) → Result A BufferError → Result B BufferError → Type 0
BufferReturnsOrOom = ReturnsBut BufferError.OutOfMemory

-- what f gives of the value, or the refusal
abbrev pub and_then : {A B E : Type 0} → Result A E → (A → Result B E) → Result B E
and_then (Ok x) f = f x
and_then (Err e) f = Err e

-- f of the value, or the refusal
abbrev pub and_so : {A B E : Type 0} → Result A E → (A → B) → Result B E
and_so r f = and_then r (λ x. Ok (f x))

-- what f gives at each of n indexes from the first on, or its first refusal
abbrev pub each_from : {A E : Type 0} → (ℕ → Result A E) → ℕ → ℕ → Result (List A) E
each_from f first zero = Ok []
each_from f first (suc n) = and_then (each_from f first n) (λ xs. and_so (f (first + n)) (λ x. xs ++ x ∷ []))
