-- A value behind those that are there.
use Rattle.std.specs.Prelude.{◌≡◌, ◌⊎◌, ◌++◌, List, [], ◌∷◌, Result, Ok, Err, MatchResult}
use Rattle.vx_dtype.specs.declared.error.VortexError.{VortexError}
use Rattle.vx_dtype.specs.declared.error.VortexError.TheVariants.{OutOfMemory}

-- the call put what is said, seen by view, behind the old ones, or gave its refusal, unless memory ran out
abbrev pub Pushes : {A B C : Type 0} → (A → B) → List A → Result C VortexError → Result B VortexError → List A → Type 0
Pushes {A} view old result said new = MatchResult result (λ _. (x : A) × (new ≡ old ++ x ∷ []) × (said ≡ Ok (view x))) (λ e. (e ≡ OutOfMemory) ⊎ (said ≡ Err e))
