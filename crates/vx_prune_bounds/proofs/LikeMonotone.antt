-- Bounds that say more of texts and patterns say more of what LIKE may give.
use Rattle.std.proofs.Common.{◌≡◌, ℕ, Bool, true, false, ◌&&◌, ◌||◌, not, List, refl, sym, subst, Option, Some, None, inl, inr}
use Rattle.std.proofs.lemmas.Bool.{and_parts, and_from, or_cases, or_left, or_right, both_ways, not-true, not_from_false, false_from_ne_true}
use Rattle.vx_prune_bounds.specs.Bounds.{Bounds, IsWithin, IsProper}
use Rattle.vx_prune_bounds.specs.Truths.{truths, AreWithin}
use Rattle.vx_prune_bounds.proofs.Contained.{Within, within, implied, implies}
use Rattle.vx_prune_bounds.specs.Beginnings.{beginning, none_like, only_text, surely_unlike, flipped_truths, like_truths}
use Rattle.vx_prune_bounds.proofs.Texts.{before-within, past-within, only-within}

pub three-within : (m e s n f t : Bool) → (m ≡ true → n ≡ true) → (e ≡ true → f ≡ true) → (s ≡ true → t ≡ true) → AreWithin (truths m e s) (truths n f t)
three-within m e s n f t g h k = and_from (not m || n) ((not e || f) && (not s || t)) (implied m n g) (and_from (not e || f) (not s || t) (implied e f h) (implied s t k))

-- turned round or not, the second may be all that the first may be
turned-within : (negated m e s n f t : Bool) → (m ≡ true → n ≡ true) → (e ≡ true → f ≡ true) → (s ≡ true → t ≡ true) → AreWithin (flipped_truths negated (truths m e s)) (flipped_truths negated (truths n f t))
turned-within false m e s n f t g h k = three-within m e s n f t g h k
turned-within true m e s n f t g h k = three-within m s e n t f g k h

-- where no text within the wider bounds is like the pattern, none within the narrower ones is
none-within : (ci : Bool) (x y : Bounds) (p : List ℕ) → x.value ≡ true → Within x y → none_like ci y p ≡ true → none_like ci x p ≡ true
none-within ci x y p v w e = elim (or_cases _ _ e) [
  | inl h ↦ or_left _ _ (before-within (beginning ci p) x.greatest y.greatest (w.ends v) h)
  | inr h ↦ or_right _ _ (past-within (beginning ci p) x.least y.least (w.starts v) h)
]

unlike-within : (ci : Bool) (x y p r : Bounds) → x.value ≡ true → p.value ≡ true → Within x y → Within p r → IsProper p → surely_unlike ci y (only_text r) ≡ true → surely_unlike ci x (only_text p) ≡ true
unlike-within ci x y p r v u w z i e = go (only_text r) refl e
  where
    go : (o : Option (List ℕ)) → only_text r ≡ o → surely_unlike ci y o ≡ true → surely_unlike ci x (only_text p) ≡ true
    go None s h = cc
    go (Some q) s h =
        let same = only-within p.least p.greatest r.least r.greatest q (z.starts u) (z.ends u) (implies _ _ i u) s in
        subst (λ o. surely_unlike ci x o ≡ true) (sym same) (none-within ci x y q v w h)

-- what LIKE may give of bounds that say more it may give of those that say less, if the pattern's are in order
pub like-mono : (negated ci : Bool) (x y p r : Bounds) → IsWithin x y → IsWithin p r → IsProper p → AreWithin (like_truths negated ci x p) (like_truths negated ci y r)
like-mono negated ci x y p r e f i =
    let w = within x y e in
    let z = within p r f in
    turned-within negated _ _ _ _ _ _
    (λ h. elim (or_cases _ _ h) [ inl k ↦ or_left _ _ (w.null k) | inr k ↦ or_right _ _ (z.null k) ])
    (λ h. let k = and_parts _ _ h in and_from _ _ (w.value k.0) (z.value k.1))
    (λ h.
    let j = and_parts _ _ h in
    let k = and_parts _ _ j.0 in
    and_from _ _ (and_from _ _ (w.value k.0) (z.value k.1))
    (not_from_false _ (false_from_ne_true _ (λ u. both_ways _ (not-true _ j.1) (unlike-within ci x y p r k.0 k.1 w z i u)))))
