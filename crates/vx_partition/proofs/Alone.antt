-- What lists of annotations have, and what two have together.
use Rattle.std.proofs.Common.{◌≡◌, ℕ, ◌+◌, ◌<◌, Bool, true, false, ◌||◌, List, [], ◌∷◌, ◌++◌, map, get_or, take, length, refl, sym, ap, subst, ◌∙◌, append-nil, true≢false}
use Rattle.std.specs.Prelude.{◌&&◌, cond, filter, if◌then◌else◌, None, not}
use Rattle.std.specs.Cmp.{IsEquivalence}
use Rattle.std.specs.HashSet.{IsUnique}
use Rattle.std.specs.List.{list_all, list_any, AllByRecursion, IsDistinct}
use Rattle.std.specs.Map.{keys_of}
use Rattle.std.proofs.lemmas.List.{take_more}
use Rattle.std.proofs.lemmas.List.Folds.{list_all-append}
use Rattle.std.proofs.lemmas.Map.Keys.{IsDistinct-head, IsDistinct-tail, IsDistinct-cons}
use Rattle.std.proofs.lemmas.Map.Views.{any-filter_same}
use Rattle.vx_partition.specs.Found.{alone, found_of, combined, distinct, set_of}
use Rattle.vx_partition.specs.Only.{only_item}
use Rattle.vx_partition.specs.declared.found.Found.{Found}
use Rattle.vx_partition.specs.declared.found.Found.TheVariants.{Nothing, One, Several}

-- what a filter leaves
left-none : {A : Type 0} (p : A → Bool) (ks : List A) → list_any p ks ≡ false → filter p ks ≡ []
left-none p [] h = refl
left-none p (k ∷ ks) h = go (left-none p ks) (p k) h
  where
    go : (list_any p ks ≡ false → filter p ks ≡ []) → (t : Bool) → (t || list_any p ks) ≡ false → cond t (k ∷ filter p ks) (filter p ks) ≡ []
    go rest true g = absurd (true≢false g)
    go rest false g = rest g

left-some : {A : Type 0} (a : A) (p : A → Bool) (ks : List A) → list_any p ks ≡ true → only_item (a ∷ filter p ks) ≡ None
left-some a p [] h = absurd (true≢false (sym h))
left-some a p (k ∷ ks) h = go (left-some a p ks) (p k) h
  where
    go : (list_any p ks ≡ true → only_item (a ∷ filter p ks) ≡ None) → (t : Bool) → (t || list_any p ks) ≡ true → only_item (a ∷ cond t (k ∷ filter p ks) (filter p ks)) ≡ None
    go rest true g = refl
    go rest false g = rest g

left-all : {A : Type 0} (P : A → Type 0) (p : A → Bool) (ks : List A) → AllByRecursion P ks → AllByRecursion P (filter p ks)
left-all P p [] h = tt
left-all P p (k ∷ ks) h = go (left-all P p ks h.1) (p k)
  where
    go : AllByRecursion P (filter p ks) → (t : Bool) → AllByRecursion P (cond t (k ∷ filter p ks) (filter p ks))
    go rest true = (h.0, rest)
    go rest false = rest

left-apart : {A : Type 0} (eq : A → A → Bool) (p : A → Bool) (ks : List A) → IsDistinct eq ks → IsDistinct eq (filter p ks)
left-apart eq p [] d = d
left-apart eq p (k ∷ ks) d = go (left-apart eq p ks (IsDistinct-tail eq k ks d)) (p k)
  where
    go : IsDistinct eq (filter p ks) → (t : Bool) → IsDistinct eq (cond t (k ∷ filter p ks) (filter p ks))
    go rest true = IsDistinct-cons eq k (filter p ks) (left-all (λ y. eq k y ≡ false) p ks (IsDistinct-head eq k ks d)) rest
    go rest false = rest

unit-keys : {A : Type 0} (ks : List A) → keys_of (map (λ a. (a, tt {0})) ks) ≡ ks
unit-keys [] = refl
unit-keys (k ∷ ks) = ap (λ l. k ∷ l) (unit-keys ks)

module _ {A : Type 0} (eq : A → A → Bool) where
  abbrev one_if : A → Bool → Found A
  one_if a t = if t then One a else Several

  pub set-keys : {S : Type 0} (s : S) (xs : List A) → (set_of eq s xs).keys ≡ distinct eq xs
  set-keys s xs = unit-keys (distinct eq xs)

  -- those that differ from a do
  left-differ : (a : A) (ks : List A) → AllByRecursion (λ y. eq a y ≡ false) (filter (λ b. not (eq a b)) ks)
  left-differ a [] = tt
  left-differ a (k ∷ ks) = go (left-differ a ks) (eq a k) refl
    where
      go : AllByRecursion (λ y. eq a y ≡ false) (filter (λ b. not (eq a b)) ks) → (t : Bool) → eq a k ≡ t
          → AllByRecursion (λ y. eq a y ≡ false) (cond (not t) (k ∷ filter (λ b. not (eq a b)) ks) (filter (λ b. not (eq a b)) ks))
      go rest true e = rest
      go rest false e = (e, rest)

  distinct-apart : (xs : List A) → IsDistinct eq (distinct eq xs)
  unfolding IsDistinct
  distinct-apart [] = tt
  distinct-apart (a ∷ rest) = (left-differ a (distinct eq rest), left-apart eq (λ b. not (eq a b)) (distinct eq rest) (distinct-apart rest))

  -- the set has nothing twice
  pub set-once : {S : Type 0} (s : S) (xs : List A) → IsUnique eq (set_of eq s xs)
  set-once s xs = subst (IsDistinct eq) (sym (set-keys s xs)) (distinct-apart xs)

  not-all : (a : A) (xs : List A) → list_any (λ b. not (eq a b)) xs ≡ not (list_all (eq a) xs)
  not-all a [] = refl
  not-all a (x ∷ xs) = go (not-all a xs) (eq a x)
    where
      go : list_any (λ b. not (eq a b)) xs ≡ not (list_all (eq a) xs) → (t : Bool) → (not t || list_any (λ b. not (eq a b)) xs) ≡ not (t && list_all (eq a) xs)
      go rest true = rest
      go rest false = refl

  module _ (q : IsEquivalence eq) where
    all-alike : (a b : A) → eq a b ≡ true → (xs : List A) → list_all (eq a) xs ≡ list_all (eq b) xs
    all-alike a b same [] = refl
    all-alike a b same (x ∷ xs) = ap (λ t. t && list_all (eq a) xs) (q.congr a b x same) ∙ ap (λ t. eq b x && t) (all-alike a b same xs)

    -- two lists have together what both have
    pub found-append : (xs ys : List A) → found_of eq (xs ++ ys) ≡ combined eq (found_of eq xs) (found_of eq ys)
    found-append [] ys = refl
    found-append (a ∷ xs) [] = ap (λ l. one_if a (list_all (eq a) l)) (append-nil xs) ∙ stays (list_all (eq a) xs)
      where
        stays : (t : Bool) → one_if a t ≡ combined eq (one_if a t) Nothing
        stays true = refl
        stays false = refl
    found-append (a ∷ xs) (b ∷ bs) =
        ap (one_if a) (list_all-append (eq a) xs (b ∷ bs)) ∙ cases (list_all (eq a) xs) (eq a b) (list_all (eq a) bs) (list_all (eq b) bs) refl (λ same. all-alike a b same bs)
      where
        cases : (s t u v : Bool) → eq a b ≡ t → (eq a b ≡ true → u ≡ v) → one_if a (s && (t && u)) ≡ combined eq (one_if a s) (one_if b v)
        cases false t u v e same = refl
        cases true false u true e same = sym (ap (one_if a) e)
        cases true false u false e same = refl
        cases true true u true e same = ap (one_if a) (same e) ∙ sym (ap (one_if a) e)
        cases true true u false e same = ap (one_if a) (same e)

    -- what one more has
    pub found-next : (xs : List A) (i : ℕ) (a : A) → i < length xs → a ≡ get_or xs i a → combined eq (found_of eq (take i xs)) (One a) ≡ found_of eq (take (i + 1) xs)
    found-next xs i a h is = sym (ap (found_of eq) (take_more xs i a h ∙ ap (λ x. take i xs ++ x ∷ []) (sym is)) ∙ found-append (take i xs) (a ∷ []))

    -- a test that equal ones pass alike
    any-distinct : (p : A → Bool) → ((k l : A) → eq k l ≡ true → p k ≡ p l) → (xs : List A) → list_any p (distinct eq xs) ≡ list_any p xs
    any-distinct p alike [] = refl
    any-distinct p alike (a ∷ rest) = cases (any-distinct p alike rest) (p a) refl
      where
        kept : p a ≡ false → (k : A) → p k ≡ true → (t : Bool) → eq a k ≡ t → not t ≡ true
        kept e k h true s = absurd (true≢false (sym h ∙ sym (alike a k s) ∙ e))
        kept e k h false s = refl

        cases : list_any p (distinct eq rest) ≡ list_any p rest → (t : Bool) → p a ≡ t → (t || list_any p (filter (λ b. not (eq a b)) (distinct eq rest))) ≡ (t || list_any p rest)
        cases below true e = refl
        cases below false e = any-filter_same p (λ b. not (eq a b)) true (λ k h. kept e k h (eq a k) refl) (distinct eq rest) ∙ below

    right-alike : (c k l : A) → eq k l ≡ true → eq c k ≡ eq c l
    right-alike c k l s = q.symm c k ∙ q.congr k l c s ∙ q.symm l c

    -- the set has what the list has
    pub set-has : {S : Type 0} (s : S) (xs : List A) (c : A) → list_any (eq c) (set_of eq s xs).keys ≡ list_any (eq c) xs
    set-has s xs c = ap (list_any (eq c)) (set-keys s xs) ∙ any-distinct (eq c) (right-alike c) xs

    -- and one alone where the list has
    alone-distinct : (xs : List A) → only_item (distinct eq xs) ≡ alone (found_of eq xs)
    alone-distinct [] = refl
    alone-distinct (a ∷ rest) = cases (any-distinct (λ b. not (eq a b)) (λ k l s. ap not (right-alike a k l s)) rest ∙ not-all a rest) (list_all (eq a) rest) refl
      where
        cases : list_any (λ b. not (eq a b)) (distinct eq rest) ≡ not (list_all (eq a) rest) → (t : Bool) → list_all (eq a) rest ≡ t
            → only_item (a ∷ filter (λ b. not (eq a b)) (distinct eq rest)) ≡ alone (one_if a t)
        cases differ true e = ap (λ l. only_item (a ∷ l)) (left-none (λ b. not (eq a b)) (distinct eq rest) (differ ∙ ap not e))
        cases differ false e = left-some a (λ b. not (eq a b)) (distinct eq rest) (differ ∙ ap not e)

    pub set-alone : {S : Type 0} (s : S) (xs : List A) → only_item (set_of eq s xs).keys ≡ alone (found_of eq xs)
    set-alone s xs = ap only_item (set-keys s xs) ∙ alone-distinct xs
