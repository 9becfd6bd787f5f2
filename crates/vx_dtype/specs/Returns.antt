-- What a call answers that may also run out of memory.
use Rattle.std.specs.Prelude.{◌≡◌, ◌⊎◌, List, Option, Some, None, Result, Ok, Err, MatchResult}
use Rattle.vx_dtype.specs.declared.error.VortexError.{VortexError}
use Rattle.vx_dtype.specs.declared.error.VortexError.TheVariants.{OutOfMemory, NoSuchField}
use Rattle.vx_dtype.specs.Types.{Name, Fields}
use Rattle.vx_dtype.specs.Fields.{field_names, first_unknown, project, names_without}

-- the call gave what is said, seen by view, or its refusal, unless memory ran out
abbrev pub ReturnsOrOom : {A B : Type 0} → (A → B) → Result A VortexError → Result B VortexError → Type 0
ReturnsOrOom view result said = MatchResult result (λ x. said ≡ Ok (view x)) (λ e. (e ≡ OutOfMemory) ⊎ (said ≡ Err e))

-- the call gave just what is said, seen by view, or its refusal: it takes no memory
abbrev pub Returns : {A B : Type 0} → (A → B) → Result A VortexError → Result B VortexError → Type 0
Returns view result said = MatchResult result (λ x. said ≡ Ok (view x)) (λ e. said ≡ Err e)

-- the answer, unless there is a first name without a field
abbrev pub known_or : {A : Type 0} → Option Name → Result A VortexError → Result A VortexError
known_or None answer = answer
known_or (Some a) answer = Err (NoSuchField a)

-- for each name the first field of that name, or the first name without a field
abbrev pub projected : List Name → Fields → Result Fields VortexError
projected names fs = known_or (first_unknown names fs) (Ok (project names fs))

-- the fields but those of the given names, or the first given name without a field
abbrev pub projected_without : List Name → Fields → Result Fields VortexError
projected_without names fs = known_or (first_unknown names fs) (Ok (project (names_without names (field_names fs)) fs))
