-- Lemmas on lists of any elements.
use Rattle.std.proofs.Common.{◌≡◌, ℕ, ◌+◌, ◌<◌, List, [], ◌∷◌, ◌++◌, length, get_or, drop, map, refl, sym, ap, ◌∙◌, inl, inr}
use Rattle.std.proofs.lemmas.List.{drop_more}
use Rattle.vx_dtype.specs.Lists.{IsIn}

-- ---- elements

pub in_left : {A : Type 0} (x : A) (xs ys : List A) → IsIn x xs → IsIn x (xs ++ ys)
in_left x [] ys h = elim h [ ]
in_left x (z ∷ xs) ys (inl e) = inl e
in_left x (z ∷ xs) ys (inr h) = inr (in_left x xs ys h)

pub in_right : {A : Type 0} (x : A) (xs ys : List A) → IsIn x ys → IsIn x (xs ++ ys)
in_right x [] ys h = h
in_right x (z ∷ xs) ys h = inr (in_right x xs ys h)

pub in_the_middle : {A : Type 0} (before : List A) (x : A) (after : List A) → IsIn x (before ++ (x ∷ after))
in_the_middle before x after = in_right x before (x ∷ after) (inl refl)

-- functions that agree at each element give the same list
pub map_same : {A B : Type 0} (f g : A → B) (xs : List A) → ((x : A) → IsIn x xs → f x ≡ g x) → map f xs ≡ map g xs
map_same f g [] h = refl
map_same f g (x ∷ xs) h = rw (h x (inl refl), map_same f g xs (λ y i. h y (inr i))) refl

-- ---- what is left from a place on

-- it begins with the element there
pub drop_next : {A : Type 0} (xs : List A) (i : ℕ) (x : A) → i < length xs → x ≡ get_or xs i x → drop i xs ≡ x ∷ drop (i + 1) xs
drop_next xs i x h is = drop_more xs i x h ∙ ap (λ y. y ∷ drop (i + 1) xs) (sym is)

-- ---- what was made so far stands in front of what is left

module _ {A L : Type 0} (cons : A → L → L) where
  abbrev pub in_front : List A → L → L
  in_front [] rest = rest
  in_front (x ∷ made) rest = cons x (in_front made rest)

  pub in_front-push : (made : List A) (x : A) (rest : L) → in_front (made ++ x ∷ []) rest ≡ in_front made (cons x rest)
  in_front-push [] x rest = refl
  in_front-push (y ∷ made) x rest = ap (cons y) (in_front-push made x rest)

  pub in_front-all : (nil : L) (all : List A → L) → all [] ≡ nil → ((x : A) (xs : List A) → all (x ∷ xs) ≡ cons x (all xs)) → (made : List A) → in_front made nil ≡ all made
  in_front-all nil all none more [] = sym none
  in_front-all nil all none more (x ∷ made) = rw (more x made) (ap (cons x) (in_front-all nil all none more made))
