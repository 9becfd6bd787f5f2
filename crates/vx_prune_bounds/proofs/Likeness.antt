-- What LIKE may give of texts within bounds.
use Rattle.std.proofs.Common.{◌≡◌, ℕ, Bool, true, false, ◌&&◌, not, List, ◌∙◌, refl, sym, ap, subst, chars, encode_utf8_all, nat_eq, IsUtf8, Option, Some, None, if◌then◌else◌, inl, inr}
use Rattle.std.specs.List.{starts_with}
use Rattle.std.proofs.lemmas.Bool.{and_from, or_cases, or_left, or_right, both_ways, false_from_ne_true}
use Rattle.std.proofs.lemmas.Str.{encodes-chars, encodes-append, IsUtf8-from_is_utf8}
use Rattle.vx_value.specs.Fits.{Fits}
use Rattle.vx_value.specs.Types.{ty, atomic, text, Datum, null, bool, int, float, utf8, bytes, list_of, struct_of}
use Rattle.vx_fn.specs.Values.{parts, is_like, flipped, liked}
use Rattle.vx_prune_bounds.specs.Bounds.{Bounds, Contains}
use Rattle.vx_prune_bounds.specs.Truths.{truths, MayBe}
use Rattle.vx_prune_bounds.proofs.Contained.{Inside, inside}
use Rattle.vx_prune_bounds.specs.Beginnings.{fixed_characters, beginning, none_like, only_text, surely_unlike, flipped_truths, like_truths}
use Rattle.vx_prune_bounds.proofs.Fixed.{matches-begins}
use Rattle.vx_prune_bounds.proofs.Texts.{BeginsOtherwise, rest-begins, before-otherwise, past-otherwise, only-value}

-- ---- texts that are like the pattern

-- such a text begins as the pattern does
pub like-begins : (ci : Bool) (t p : List ℕ) → IsUtf8 t → is_like ci t p ≡ true → starts_with nat_eq t (beginning ci p) ≡ true
like-begins true t p u e = refl
like-begins false t p u e =
    let more = matches-begins (parts false (chars p)) (chars t) e in
    rest-begins (beginning false p) t (encode_utf8_all more.0)
    (sym (encodes-chars t u) ∙ ap encode_utf8_all more.1 ∙ encodes-append (fixed_characters (parts false (chars p))) more.0)

otherwise-unlike : (ci : Bool) (t p : List ℕ) → BeginsOtherwise (beginning ci p) t → is_like ci t p ≡ false
otherwise-unlike ci t p b = false_from_ne_true _ (λ e. both_ways _ b.other (like-begins ci t p (IsUtf8-from_is_utf8 t b.text) e))

-- no text within the bounds is like a pattern of which they say that none is
pub none-like : (ci : Bool) (x : Bounds) (t p : List ℕ) → none_like ci x p ≡ true → Inside x (utf8 t) → is_like ci t p ≡ false
none-like ci x t p e i = elim (or_cases _ _ e) [
  | inl h ↦ otherwise-unlike ci t p (before-otherwise (beginning ci p) t x.greatest h i.up_to)
  | inr h ↦ otherwise-unlike ci t p (past-otherwise (beginning ci p) t x.least h i.from)
]

pub surely-unlike : (ci : Bool) (x p : Bounds) (t q : List ℕ) → surely_unlike ci x (only_text p) ≡ true → Inside x (utf8 t) → Inside p (utf8 q) → is_like ci t q ≡ false
surely-unlike ci x p t q e i j = go (only_text p) refl e
  where
    go : (o : Option (List ℕ)) → only_text p ≡ o → surely_unlike ci x o ≡ true → is_like ci t q ≡ false
    go None s h = cc
    go (Some r) s h =
        let same = only-value p.least p.greatest r (utf8 q) s j.from j.up_to in
        let text : q ≡ r = cc in
        subst (λ z. is_like ci t z ≡ false) (sym text) (none-like ci x t r h i)

-- ---- what LIKE gives is what it may give

answer : (negated n f t b : Bool) → (if b then t else f) ≡ true → MayBe (flipped_truths negated (truths n f t)) (bool (flipped negated b))
answer false n f t b e = e
answer true n f t true e = e
answer true n f t false e = e

null_answer : (negated n f t : Bool) → n ≡ true → MayBe (flipped_truths negated (truths n f t)) null
null_answer false n f t e = e
null_answer true n f t e = e

pub some_answer : (both unlike b : Bool) → both ≡ true → (unlike ≡ true → b ≡ false) → (if b then both && not unlike else both) ≡ true
some_answer both unlike false e f = e
some_answer both false true e f = and_from _ _ e refl
some_answer both true true e f = let h = f refl in cc

pub like-sound : (negated ci : Bool) (x p : Bounds) (v w : Datum) (m n : Bool) → Fits v (ty (atomic text) m) → Fits w (ty (atomic text) n) → Contains x v → Contains p w →
    MayBe (like_truths negated ci x p) (liked negated ci v w)
like-sound negated ci x p null w m n f g i j = null_answer negated _ _ _ (or_left _ _ i)
like-sound negated ci x p (utf8 t) null m n f g i j = null_answer negated _ _ _ (or_right _ _ j)
like-sound negated ci x p (utf8 t) (utf8 q) m n f g i j =
    let at = inside x (utf8 t) refl i in
    let by = inside p (utf8 q) refl j in
    answer negated _ _ _ (is_like ci t q)
    (some_answer (x.value && p.value) (surely_unlike ci x (only_text p)) (is_like ci t q) (and_from _ _ at.value by.value) (λ e. surely-unlike ci x p t q e at by))
like-sound negated ci x p (utf8 t) (bool z) m n f g i j = cc
like-sound negated ci x p (utf8 t) (int z) m n f g i j = cc
like-sound negated ci x p (utf8 t) (float z) m n f g i j = cc
like-sound negated ci x p (utf8 t) (bytes z) m n f g i j = cc
like-sound negated ci x p (utf8 t) (list_of z) m n f g i j = cc
like-sound negated ci x p (utf8 t) (struct_of z) m n f g i j = cc
like-sound negated ci x p (bool z) w m n f g i j = cc
like-sound negated ci x p (int z) w m n f g i j = cc
like-sound negated ci x p (float z) w m n f g i j = cc
like-sound negated ci x p (bytes z) w m n f g i j = cc
like-sound negated ci x p (list_of z) w m n f g i j = cc
like-sound negated ci x p (struct_of z) w m n f g i j = cc
