-- Items that are joined, each of which may be the refusal of the call that was to make it.
use Rattle.std.specs.Prelude.{◌≡◌, ◌⊎◌, List, Option, Result, Err, MatchResult}
use Rattle.vx_dtype.specs.declared.error.VortexError.{VortexError}
use Rattle.vx_dtype.specs.declared.error.VortexError.TheVariants.{OutOfMemory}
use Rattle.vx_forms.specs.Given.{all_seen}

-- the call collected what is given, or answered the first refusal among it, unless memory ran out
abbrev pub CollectsGiven : {A B : Type 0} → (A → B) → (List B → Result (Option A) VortexError → Type 0) → List (Result A VortexError) → Result (Option A) VortexError → Type 0
CollectsGiven view collects given result = (result ≡ Err OutOfMemory) ⊎ MatchResult (all_seen view given) (λ items. collects items result) (λ e. result ≡ Err e)
