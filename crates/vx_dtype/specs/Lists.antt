-- Words on lists of any elements.
use Rattle.std.specs.Prelude.{◌≡◌, ◌⊎◌, List, [], ◌∷◌}

-- x is one of the elements
abbrev pub IsIn : {A : Type 0} → A → List A → Type 0
IsIn x [] = ⊥
IsIn x (y ∷ ys) = (x ≡ y) ⊎ IsIn x ys

-- R holds of each element and the one beside it, and the lists are as long
pub data Forall2 {A B : Type 0} (R : A → B → Type 0) : List A → List B → Type 0 where
  forall2_nil : Forall2 R [] []
  forall2_cons : {x : A} {y : B} {xs : List A} {ys : List B} → R x y → Forall2 R xs ys → Forall2 R (x ∷ xs) (y ∷ ys)
