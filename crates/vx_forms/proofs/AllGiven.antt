-- What all operands stand for, one more of them.
use Rattle.std.proofs.Common.{◌≡◌, List, [], ◌∷◌, ◌++◌, map, length, ◌+◌, refl, sym, ap, ◌∙◌, inl, inr}
use Rattle.std.specs.Prelude.{◌⊎◌, Result, Ok, Err}
use Rattle.std.proofs.lemmas.List.{map-append, append_assoc, length-append}
use Rattle.vx_dtype.specs.declared.error.VortexError.{VortexError}
use Rattle.vx_dtype.specs.declared.error.VortexError.TheVariants.{OutOfMemory}
use Rattle.vx_tree.specs.Trees.{on_ok}
use Rattle.vx_forms.specs.Given.{all_seen, seen_as}

cons_ok : {B : Type 0} (y : B) (r : Result (List B) VortexError) (ys : List B) → on_ok (λ zs. Ok (y ∷ zs)) r ≡ Ok ys → (zs : List B) × (r ≡ Ok zs) × (ys ≡ y ∷ zs)
cons_ok y (Ok zs) ys h = (zs, refl, cc)
cons_ok y (Err e) ys h = cc

-- one more that is given
pub one_more : {A B : Type 0} (view : A → B) (gs : List (Result A VortexError)) (ys : List B) (g : Result A VortexError) (y : B)
    → all_seen view gs ≡ Ok ys → seen_as view g ≡ Ok y → all_seen view (gs ++ g ∷ []) ≡ Ok (ys ++ y ∷ [])
one_more view [] [] g y h k = rw k refl
one_more view [] (z ∷ zs) g y h k = cc
one_more view (Ok a ∷ gs) ys g y h k =
    let i = cons_ok (view a) (all_seen view gs) ys h in
    ap (on_ok (λ zs. Ok (view a ∷ zs))) (one_more view gs i.0 g y i.1 k) ∙ ap (λ zs. Ok (zs ++ y ∷ [])) (sym i.2)
one_more view (Err e ∷ gs) ys g y h k = cc

-- the first one that is refused
pub refused : {A B : Type 0} (view : A → B) (gs : List (Result A VortexError)) (ys : List B) (g : Result A VortexError) (rest : List (Result A VortexError)) (e : VortexError)
    → all_seen view gs ≡ Ok ys → seen_as view g ≡ Err e → all_seen view (gs ++ g ∷ rest) ≡ Err e
refused view [] ys g rest e h k = rw k refl
refused view (Ok a ∷ gs) ys g rest e h k =
    let i = cons_ok (view a) (all_seen view gs) ys h in
    ap (on_ok (λ zs. Ok (view a ∷ zs))) (refused view gs i.0 g rest e i.1 k)
refused view (Err r ∷ gs) ys g rest e h k = cc

-- one more tree of one more operand
pub given_next : {O A B : Type 0} (given : O → Result A VortexError) (view : A → B) (done : List O) (x : O) (trees new : List A) (t : A)
    → all_seen view (map given done) ≡ Ok (map view trees) → seen_as view (given x) ≡ Ok (view t) → new ≡ trees ++ t ∷ []
    → all_seen view (map given (done ++ x ∷ [])) ≡ Ok (map view new)
given_next given view done x trees new t so_far here pushed =
    ap (all_seen view) (map-append given done (x ∷ []))
    ∙ one_more view (map given done) (map view trees) (given x) (view t) so_far here
    ∙ ap Ok (sym (ap (map view) pushed ∙ map-append view trees (t ∷ [])))

-- an operand that is refused
pub given_refused : {O A B : Type 0} (given : O → Result A VortexError) (view : A → B) (all done : List O) (x : O) (rest before : List O) (ys : List B) (e : VortexError)
    → all_seen view (map given done) ≡ Ok ys → all ≡ done ++ before → before ≡ x ∷ rest → (e ≡ OutOfMemory) ⊎ (seen_as view (given x) ≡ Err e)
    → (e ≡ OutOfMemory) ⊎ (all_seen view (map given all) ≡ Err e)
given_refused given view all done x rest before ys e so_far whole left (inl memory) = inl memory
given_refused given view all done x rest before ys e so_far whole left (inr refusal) =
    inr (ap (λ os. all_seen view (map given os)) (whole ∙ ap (λ os. done ++ os) left)
    ∙ ap (all_seen view) (map-append given done (x ∷ rest))
    ∙ refused view (map given done) ys (given x) (map given rest) e so_far refusal)

-- what is left, once one more is taken from it
pub taken : {O : Type 0} (all done before : List O) (x : O) (rest : List O) → all ≡ done ++ before → before ≡ x ∷ rest → all ≡ (done ++ x ∷ []) ++ rest
taken all done before x rest whole left = whole ∙ ap (λ os. done ++ os) left ∙ sym (append_assoc done (x ∷ []) rest)

-- as many as before, and one more
pub counted_next : {A O : Type 0} (trees new : List A) (t : A) (done : List O) (x : O) → length trees ≡ length done → new ≡ trees ++ t ∷ [] → length new ≡ length (done ++ x ∷ [])
counted_next trees new t done x e pushed = ap length pushed ∙ length-append trees (t ∷ []) ∙ ap (λ n. n + 1) e ∙ sym (length-append done (x ∷ []))
