-- How a path to a place grows on the way back from it, and the place in the end.
use Rattle.std.proofs.Common.{◌≡◌, ◌⊎◌, inl, inr, ℕ, ◌-◌, List, [], ◌∷◌, ◌++◌, length, length-append, take, append_assoc, append-nil, refl, sym, ap, subst, ◌∙◌, arith, Option, Some, None, Result, Ok, Err, IfOk}
use Rattle.std.specs.Prelude.{◌↔◌, IfSome, IfErr, IsSome}
use Rattle.std.proofs.Math.Seq.{take-append_seam}
use Rattle.vx_dtype.specs.declared.error.VortexError.{VortexError}
use Rattle.vx_dtype.specs.declared.error.VortexError.TheVariants.{OutOfMemory}
use Rattle.vx_tree.specs.Pushed.{Pushes}
use Rattle.vx_places.specs.declared.place.Place.{Place}
use Rattle.vx_places.specs.Walked.{LeadsToNode, IsPlaced}

-- ---- a path on the way back

-- a place in a child is one below the node, with the child's index in front
pub in_child : (At : List ℕ → VortexError → Type 0) (In : ℕ → List ℕ → VortexError → Type 0) (old now pushed new : List ℕ) (i : ℕ) (r : VortexError) →
    now ≡ old → pushed ≡ now ++ i ∷ [] → ((rest : List ℕ) → At rest r → In i rest r) → (r ≡ OutOfMemory) ⊎ ((rest : List ℕ) × (new ≡ pushed ++ rest) × At rest r) →
    (r ≡ OutOfMemory) ⊎ ((j : ℕ) × (rest : List ℕ) × (new ≡ old ++ j ∷ rest) × In j rest r)
in_child At In old now pushed new i r same put enters (inl m) = inl m
in_child At In old now pushed new i r same put enters (inr p) =
    let rest = p.0 in
    inr (i, rest, p.1 ∙ ap (λ xs. xs ++ rest) put ∙ append_assoc now (i ∷ []) rest ∙ ap (λ xs. xs ++ i ∷ rest) same, enters rest p.2)

-- a place below the node is one of the tree
pub in_node : (At : List ℕ → VortexError → Type 0) (In : ℕ → List ℕ → VortexError → Type 0) (old new : List ℕ) (r : VortexError) → ((i : ℕ) (rest : List ℕ) → In i rest r → At (i ∷ rest) r) →
    (r ≡ OutOfMemory) ⊎ ((i : ℕ) × (rest : List ℕ) × (new ≡ old ++ i ∷ rest) × In i rest r) → (r ≡ OutOfMemory) ⊎ ((rest : List ℕ) × (new ≡ old ++ rest) × At rest r)
in_node At In old new r leaves (inl m) = inl m
in_node At In old new r leaves (inr p) = inr (p.0 ∷ p.1, p.2, leaves p.0 p.1 p.3)

-- the node itself is a place, to which the path stays as it is
pub at_node : (At : List ℕ → VortexError → Type 0) (F : Type 0) (old new : List ℕ) (r : VortexError) → new ≡ old → (F → At [] r) → (r ≡ OutOfMemory) ⊎ F → (r ≡ OutOfMemory) ⊎ ((rest : List ℕ) × (new ≡ old ++ rest) × At rest r)
at_node At F old new r same is (inl m) = inl m
at_node At F old new r same is (inr f) = inr ([], same ∙ sym (append-nil old), is f)

-- what the node pushes keeps the path, or is refused there
pub pushed_at : {A B C : Type 0} (view : A → B) (At : List ℕ → VortexError → Type 0) (old new : List ℕ) (xs ys : List A) (r : Result C VortexError) (said : Result B VortexError) →
    new ≡ old → ((e : VortexError) → said ≡ Err e → At [] e) → Pushes view xs r said ys → LeadsToNode At old r new
pushed_at view At old new xs ys (Ok x) said same is h = same
pushed_at view At old new xs ys (Err e) said same is h = at_node At (said ≡ Err e) old new e same (is e) h

-- the last index is taken off again
pub popped : (old pushed now new : List ℕ) (i n : ℕ) → pushed ≡ old ++ i ∷ [] → now ≡ pushed → n ≡ length now → new ≡ take (n - 1) now → new ≡ old
popped old pushed now new i n put kept many is =
    let whole : now ≡ old ++ i ∷ [] = kept ∙ put in
    let count : n - 1 ≡ length old = omega (arith, many, ap length whole, length-append old (i ∷ [])) in
    is ∙ ap (λ k. take k now) count ∙ ap (take (length old)) whole ∙ take-append_seam old (i ∷ [])

-- ---- the place in the end

-- from an empty path the place is the whole path
pub from_start : (At : List ℕ → VortexError → Type 0) (start new : List ℕ) (r : VortexError) → start ≡ [] → (r ≡ OutOfMemory) ⊎ ((rest : List ℕ) × (new ≡ start ++ rest) × At rest r) → (r ≡ OutOfMemory) ⊎ At new r
from_start At start new r none (inl m) = inl m
from_start At start new r none (inr p) = let is : p.0 ≡ new = sym (p.1 ∙ ap (λ xs. xs ++ p.0) none) in inr (subst (λ xs. At xs r) is p.2)

module _ (path : List ℕ) (refusal : VortexError) where
  pub placed_at : (F : Type 0) (P : Place → Type 0) (r : Result (Option Place) VortexError) → IsPlaced path refusal r → (F → (p : Place) → p.path.items ≡ path → p.refusal ≡ refusal → P p) → (refusal ≡ OutOfMemory) ⊎ F → IfOk r (λ found. IfSome found P)
  placed_at F P (Ok (Some p)) h is (inl m) = absurd (h.2 m)
  placed_at F P (Ok (Some p)) h is (inr f) = is f p h.0 h.1
  placed_at F P (Ok None) h is at = absurd h
  placed_at F P (Err e) h is at = tt

  pub placed_found : (F B : Type 0) (r : Result (Option Place) VortexError) → IsPlaced path refusal r → (F → B) → (refusal ≡ OutOfMemory) ⊎ F → IfOk r (λ found. IsSome found ↔ B)
  placed_found F B (Ok (Some p)) h is (inl m) = absurd (h.2 m)
  placed_found F B (Ok (Some p)) h is (inr f) = (λ _. is f, λ _. refl)
  placed_found F B (Ok None) h is at = absurd h
  placed_found F B (Err e) h is at = tt

  pub placed_memory : (r : Result (Option Place) VortexError) → IsPlaced path refusal r → IfErr r (λ e. e ≡ OutOfMemory)
  placed_memory (Ok p) h = tt
  placed_memory (Err e) h = h
