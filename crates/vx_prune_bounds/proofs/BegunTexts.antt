-- What a test of a beginning may give of texts within bounds.
use Rattle.std.proofs.Common.{◌≡◌, ℕ, Bool, true, false, ◌&&◌, ◌||◌, List, ◌∙◌, refl, sym, ap, subst, chars, drop, take, length, encode_utf8_all, nat_eq, nat_cmp, IsUtf8, Option, Some, None, inl, inr, ◌≤◌, Ordering, if◌then◌else◌}
use Rattle.std.specs.List.{starts_with}
use Rattle.std.specs.Cmp.Lexicographic.{slice_cmp}
use Rattle.std.proofs.lemmas.Bool.{and_from, and_parts, or_cases, or_left, or_right, both_ways, not-true, not_from_false, false_from_ne_true}
use Rattle.std.specs.Ordering.{is_gt, is_lt}
use Rattle.std.proofs.lemmas.List.{take_all}
use Rattle.std.proofs.lemmas.Str.{encodes-chars, encodes-append, IsUtf8-from_is_utf8}
use Rattle.vx_value.specs.Fits.{Fits}
use Rattle.vx_value.specs.Types.{ty, atomic, text, Datum, null, bool, int, float, utf8, bytes, list_of, struct_of}
use Rattle.vx_fn.specs.Values.{starts_with_text, begun}
use Rattle.vx_prune_bounds.specs.Bounds.{Bounds, Contains, IsWithin, IsProper}
use Rattle.vx_prune_bounds.specs.Truths.{truths, MayBe, AreWithin}
use Rattle.vx_prune_bounds.specs.Beginnings.{beginning_cmp, is_before, is_past, only_text}
use Rattle.vx_prune_bounds.specs.Begun.{bytes_of, none_begins, surely_otherwise, begun_truths}
use Rattle.vx_prune_bounds.proofs.Contained.{Inside, inside, Within, within, implies}
use Rattle.vx_prune_bounds.proofs.Likeness.{some_answer}
use Rattle.vx_prune_bounds.proofs.LikeMonotone.{three-within}
use Rattle.vx_prune_bounds.proofs.Texts.{BeginsOtherwise, begins-rest, rest-begins, before-otherwise, past-otherwise, before-within, past-within, only-value, only-within, beginning_cmp-before, beginning_cmp-past}

-- ---- texts that begin so

-- such a text begins with the other's bytes
begins-bytes : (t p : List ℕ) → IsUtf8 t → starts_with_text t p ≡ true → starts_with nat_eq t (bytes_of p) ≡ true
begins-bytes t p u e =
    let rest = drop (length (chars p)) (chars t) in
    rest-begins (bytes_of p) t (encode_utf8_all rest)
    (sym (encodes-chars t u) ∙ ap encode_utf8_all (begins-rest (chars p) (chars t) e) ∙ encodes-append (chars p) rest)

otherwise-unbegun : (t p : List ℕ) → BeginsOtherwise (bytes_of p) t → starts_with_text t p ≡ false
otherwise-unbegun t p b = false_from_ne_true _ (λ e. both_ways _ b.other (begins-bytes t p (IsUtf8-from_is_utf8 t b.text) e))

-- no text within the bounds begins so where they say that none does
none-begun : (x : Bounds) (t p : List ℕ) → none_begins x p ≡ true → Inside x (utf8 t) → starts_with_text t p ≡ false
none-begun x t p e i = elim (or_cases _ _ e) [
  | inl h ↦ otherwise-unbegun t p (before-otherwise (bytes_of p) t x.greatest h i.up_to)
  | inr h ↦ otherwise-unbegun t p (past-otherwise (bytes_of p) t x.least h i.from)
]

surely-unbegun : (x p : Bounds) (t q : List ℕ) → surely_otherwise x (only_text p) ≡ true → Inside x (utf8 t) → Inside p (utf8 q) → starts_with_text t q ≡ false
surely-unbegun x p t q e i j = go (only_text p) refl e
  where
    go : (o : Option (List ℕ)) → only_text p ≡ o → surely_otherwise x o ≡ true → starts_with_text t q ≡ false
    go None s h = cc
    go (Some r) s h =
        let same = only-value p.least p.greatest r (utf8 q) s j.from j.up_to in
        let text : q ≡ r = cc in
        subst (λ z. starts_with_text t z ≡ false) (sym text) (none-begun x t r h i)

-- ---- what the test gives is what it may give

answer : (n f t b : Bool) → (if b then t else f) ≡ true → MayBe (truths n f t) (bool b)
answer n f t true e = e
answer n f t false e = e

pub begun-sound : (x p : Bounds) (v w : Datum) (m n : Bool) → Fits v (ty (atomic text) m) → Fits w (ty (atomic text) n) → Contains x v → Contains p w → MayBe (begun_truths x p) (begun v w)
begun-sound x p null w m n f g i j = or_left _ _ i
begun-sound x p (utf8 t) null m n f g i j = or_right _ _ j
begun-sound x p (utf8 t) (utf8 q) m n f g i j =
    let at = inside x (utf8 t) refl i in
    let by = inside p (utf8 q) refl j in
    answer (x.null || p.null) _ _ (starts_with_text t q)
    (some_answer (x.value && p.value) (surely_otherwise x (only_text p)) (starts_with_text t q) (and_from _ _ at.value by.value) (λ e. surely-unbegun x p t q e at by))
begun-sound x p (utf8 t) (bool z) m n f g i j = cc
begun-sound x p (utf8 t) (int z) m n f g i j = cc
begun-sound x p (utf8 t) (float z) m n f g i j = cc
begun-sound x p (utf8 t) (bytes z) m n f g i j = cc
begun-sound x p (utf8 t) (list_of z) m n f g i j = cc
begun-sound x p (utf8 t) (struct_of z) m n f g i j = cc
begun-sound x p (bool z) w m n f g i j = cc
begun-sound x p (int z) w m n f g i j = cc
begun-sound x p (float z) w m n f g i j = cc
begun-sound x p (bytes z) w m n f g i j = cc
begun-sound x p (list_of z) w m n f g i j = cc
begun-sound x p (struct_of z) w m n f g i j = cc

-- ---- bounds that say more

none-within : (x y : Bounds) (p : List ℕ) → x.value ≡ true → Within x y → none_begins y p ≡ true → none_begins x p ≡ true
none-within x y p v w e = elim (or_cases _ _ e) [
  | inl h ↦ or_left _ _ (before-within (bytes_of p) x.greatest y.greatest (w.ends v) h)
  | inr h ↦ or_right _ _ (past-within (bytes_of p) x.least y.least (w.starts v) h)
]

otherwise-within : (x y p r : Bounds) → x.value ≡ true → p.value ≡ true → Within x y → Within p r → IsProper p → surely_otherwise y (only_text r) ≡ true → surely_otherwise x (only_text p) ≡ true
otherwise-within x y p r v u w z i e = go (only_text r) refl e
  where
    go : (o : Option (List ℕ)) → only_text r ≡ o → surely_otherwise y o ≡ true → surely_otherwise x (only_text p) ≡ true
    go None s h = cc
    go (Some q) s h =
        let same = only-within p.least p.greatest r.least r.greatest q (z.starts u) (z.ends u) (implies _ _ i u) s in
        subst (λ o. surely_otherwise x o ≡ true) (sym same) (none-within x y q v w h)

-- the test may give of bounds that say more no more than of those that say less, if the prefix's are in order
pub begun-mono : (x y p r : Bounds) → IsWithin x y → IsWithin p r → IsProper p → AreWithin (begun_truths x p) (begun_truths y r)
begun-mono x y p r e f i =
    let w = within x y e in
    let z = within p r f in
    three-within _ _ _ _ _ _
    (λ h. elim (or_cases _ _ h) [ inl k ↦ or_left _ _ (w.null k) | inr k ↦ or_right _ _ (z.null k) ])
    (λ h. let k = and_parts _ _ h in and_from _ _ (w.value k.0) (z.value k.1))
    (λ h.
    let j = and_parts _ _ h in
    let k = and_parts _ _ j.0 in
    and_from _ _ (and_from _ _ (w.value k.0) (z.value k.1))
    (not_from_false _ (false_from_ne_true _ (λ u. both_ways _ (not-true _ j.1) (otherwise-within x y p r k.0 k.1 w z i u)))))

-- ---- as bytes tell

-- a text's bytes are those of its characters
own_bytes : (p : List ℕ) → IsUtf8 p → bytes_of p ≡ p
own_bytes p u = encodes-chars p u

pub compared-longer : (p t : List ℕ) (o : Ordering) → IsUtf8 p → o ≡ slice_cmp nat_cmp p (take (length p) t) → o ≡ beginning_cmp (bytes_of p) t
compared-longer p t o u e = e ∙ sym (ap (λ q. beginning_cmp q t) (own_bytes p u))

pub compared-shorter : (p t : List ℕ) (o : Ordering) → IsUtf8 p → length t ≤ length p → o ≡ slice_cmp nat_cmp p t → o ≡ beginning_cmp (bytes_of p) t
compared-shorter p t o u h e = compared-longer p t o u (e ∙ sym (ap (slice_cmp nat_cmp p) (take_all (length p) t h)))

bytes-utf8 : (p : List ℕ) → IsUtf8 p → IsUtf8 (bytes_of p)
bytes-utf8 p u = subst IsUtf8 (sym (own_bytes p u)) u

pub told-before : (p t : List ℕ) → IsUtf8 p → IsUtf8 t → is_gt (beginning_cmp (bytes_of p) t) ≡ is_before (bytes_of p) (Some (utf8 t))
told-before p t u v = beginning_cmp-before (bytes_of p) t (bytes-utf8 p u) v

pub told-past : (p t : List ℕ) → IsUtf8 p → IsUtf8 t → is_lt (beginning_cmp (bytes_of p) t) ≡ is_past (bytes_of p) (Some (utf8 t))
told-past p t u v = beginning_cmp-past (bytes_of p) t (bytes-utf8 p u) v
