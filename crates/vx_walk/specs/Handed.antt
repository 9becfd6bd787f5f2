-- What is handed back for something that was handed over.
use Rattle.std.specs.Prelude.{List, ◌∷◌, Result, Ok, Err, Bool, true, false, ◌||◌}
use Rattle.vx_dtype.specs.declared.error.VortexError.{VortexError}
use Rattle.vx_walk.specs.declared.order.TraversalOrder.TheVariants.{Continue}
use Rattle.vx_walk.specs.declared.transformed.Transformed.{Transformed}

-- what is handed back, or the refusal
abbrev pub Back : Type 0 → Type 0
Back A = Result (Transformed A) VortexError

-- changed to x, and the walk goes on
abbrev pub changed_to : {A : Type 0} → A → Transformed A
changed_to x = record { value = x; order = Continue; changed = true }

-- x unchanged, and the walk goes on
abbrev pub unchanged : {A : Type 0} → A → Transformed A
unchanged x = record { value = x; order = Continue; changed = false }

-- the same, its value seen by f
abbrev pub looking : {A B : Type 0} → (A → B) → Transformed A → Transformed B
looking f t = record { value = f t.value; order = t.order; changed = t.changed }

-- what is handed back, its value seen by f, or the refusal
abbrev pub seen : {A B : Type 0} → (A → B) → Back A → Back B
seen f (Ok t) = Ok (looking f t)
seen f (Err e) = Err e

-- a node, seen by f, or the refusal
abbrev pub seen_node : {A B : Type 0} → (A → B) → Result A VortexError → Result B VortexError
seen_node f (Ok n) = Ok (f n)
seen_node f (Err e) = Err e

-- the same, changed too where c says so
abbrev pub marked : {A : Type 0} → Bool → Back A → Back A
marked c (Ok t) = Ok (record { value = t.value; order = t.order; changed = t.changed || c })
marked c (Err e) = Err e

-- x, changed where c says so, in front of what is handed back for its later siblings
abbrev pub in_front : {A : Type 0} → A → Bool → Back (List A) → Back (List A)
in_front x c (Ok t) = Ok (record { value = x ∷ t.value; order = t.order; changed = c || t.changed })
in_front x c (Err e) = Err e
