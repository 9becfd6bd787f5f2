-- What is given for a child, which may be the refusal of the call that was to make it.
use Rattle.std.specs.Prelude.{List, [], ◌∷◌, Result, Ok}
use Rattle.vx_dtype.specs.declared.error.VortexError.{VortexError}
use Rattle.vx_dtype.specs.Returns.{ReturnsOrOom}
use Rattle.vx_tree.specs.Trees.{on_ok}

-- what is given, seen by view
abbrev pub seen_as : {A B : Type 0} → (A → B) → Result A VortexError → Result B VortexError
seen_as view given = on_ok (λ x. Ok (view x)) given

-- all that is given, seen by view, or the first refusal among it
abbrev pub all_seen : {A B : Type 0} → (A → B) → List (Result A VortexError) → Result (List B) VortexError
all_seen view [] = Ok []
all_seen view (given ∷ rest) = on_ok (λ y. on_ok (λ ys. Ok (y ∷ ys)) (all_seen view rest)) (seen_as view given)

-- the call gave what is made of all that is given, or the first refusal among it, unless memory ran out
abbrev pub GivesOver : {A B : Type 0} → (A → B) → (List B → Result B VortexError) → List (Result A VortexError) → Result A VortexError → Type 0
GivesOver view over given result = ReturnsOrOom view result (on_ok over (all_seen view given))

-- the node of `zip`, whose mask is given first and stands last
abbrev pub zip_over : {B : Type 0} → (List B → Result B VortexError) → List B → Result B VortexError
zip_over over (mask ∷ if_true ∷ if_false ∷ rest) = over (if_true ∷ if_false ∷ mask ∷ rest)
zip_over over given = over given
