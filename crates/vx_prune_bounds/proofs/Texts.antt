-- Texts and what they begin with, in the order of values.
use Rattle.std.proofs.Common.{◌≡◌, ℕ, inl, inr, IsUtf8, true, false, ◌&&◌, List, ◌++◌, ◌∙◌, refl, sym, ap, subst, length, drop, nat_eq, nat_cmp, is_le, is_lt, is_gt, not, Option, Some, None, Ordering, Less, Equal, Greater}
use Rattle.std.specs.Cmp.Lexicographic.{slice_cmp}
use Rattle.std.specs.List.{starts_with}
use Rattle.std.specs.Str.{is_utf8}
use Rattle.std.proofs.lemmas.Bool.{and_parts, and_from, or_cases, both_ways, not-true, not_from_false, false_from_ne_true, cases_Bool, eqb-true, eq-eqb}
use Rattle.std.specs.Ordering.{ordering_reverse}
use Rattle.std.proofs.lemmas.Cmp.{nat_list_cmp_total}
use Rattle.std.proofs.lemmas.Str.{is_utf8-from_IsUtf8}
use Rattle.std.proofs.lemmas.Slice.Eq.{starts_is}
use Rattle.vx_value.specs.Types.{Datum, null, bool, int, float, utf8, bytes, list_of, struct_of}
use Rattle.vx_prune_bounds.specs.Order.{at_most, below}
use Rattle.vx_prune_bounds.specs.Bounds.{is_from, is_up_to, starts_within, ends_within, is_interval}
use Rattle.vx_prune_bounds.proofs.Ordered.{at_most-left, at_most-right, at_most-trans, at_most-antisym, above_one, below-wider}
use Rattle.vx_prune_bounds.specs.Beginnings.{beginning, beginning_cmp, begins, is_past, is_before, text_between}
use Rattle.vx_prune_bounds.proofs.Bytes.{beginning-IsUtf8}
use Rattle.vx_prune_bounds.proofs.Orders.{between_begins, le-append, beginning_cmp-gt, beginning_cmp-lt}

-- a text that begins with these bytes is those and more
pub begins-rest : (q t : List ℕ) → starts_with nat_eq t q ≡ true → t ≡ q ++ drop (length q) t
begins-rest q t e = (starts_is (λ a b. (eqb-true a b, eq-eqb a b)) t q (starts_with nat_eq t q) refl).0 e

pub rest-begins : (q t rest : List ℕ) → t ≡ q ++ rest → starts_with nat_eq t q ≡ true
rest-begins q t rest e = (starts_is (λ a b. (eqb-true a b, eq-eqb a b)) t q (starts_with nat_eq t q) refl).1 rest e

-- they come first
pub begins-at_most : (q t : List ℕ) → is_utf8 q ≡ true → is_utf8 t ≡ true → starts_with nat_eq t q ≡ true → at_most (utf8 q) (utf8 t) ≡ true
begins-at_most q t u v e = and_from _ _ u (and_from _ _ v (subst (λ s. is_le (slice_cmp nat_cmp q s) ≡ true) (sym (begins-rest q t e)) (le-append q (drop (length q) t))))

-- what lies between them and the text begins so
pub between-begins : (q : List ℕ) (l : Datum) (t : List ℕ) → at_most (utf8 q) l ≡ true → at_most l (utf8 t) ≡ true → starts_with nat_eq t q ≡ true → begins q l ≡ true
between-begins q (utf8 s) t a b e =
    let low = and_parts _ _ (and_parts _ _ a).1 in
    let high = and_parts _ _ (and_parts _ _ b).1 in
    between_begins q s (drop (length q) t) low.1 (subst (λ z. is_le (slice_cmp nat_cmp s z) ≡ true) (begins-rest q t e) high.1)
between-begins q null t a b e = cc
between-begins q (bool x) t a b e = cc
between-begins q (int x) t a b e = cc
between-begins q (float x) t a b e = cc
between-begins q (bytes x) t a b e = cc
between-begins q (list_of x) t a b e = cc
between-begins q (struct_of x) t a b e = cc

-- ---- beside the ends of bounds

-- where the greatest value comes before these bytes, it comes before each text that begins so
pub before-begins : (q t : List ℕ) (g : Datum) → is_before q (Some g) ≡ true → is_utf8 t ≡ true → starts_with nat_eq t q ≡ true → below g (utf8 t) ≡ true
before-begins q t g b u e =
    let less = (and_parts _ _ b).0 in
    let own = and_parts _ _ (at_most-right g (utf8 q) less) in
    below-wider g g (utf8 q) (utf8 t) (at_most-left g (utf8 q) less) b (begins-at_most q t own.0 u e)

-- where the least value comes behind them and doesn't begin so, it comes behind each text that does
pub past-begins : (q t : List ℕ) (l : Datum) → is_past q (Some l) ≡ true → is_utf8 t ≡ true → starts_with nat_eq t q ≡ true → below (utf8 t) l ≡ true
past-begins q t l b u e =
    let x = and_parts _ _ b in
    let own = and_parts _ _ (at_most-left (utf8 q) l x.0) in
    let apart = false_from_ne_true (at_most l (utf8 t)) (λ h. both_ways (begins q l) (not-true _ x.1) (between-begins q l t x.0 h e)) in
    elim (or_cases _ _ (above_one (utf8 q) (utf8 t) l (begins-at_most q t own.0 u e) x.0)) [
      | inl h ↦ and_from _ _ h (not_from_false _ apart)
      | inr h ↦ absurd (both_ways _ apart h)
    ]

-- a text that doesn't begin so
pub record BeginsOtherwise (q t : List ℕ) : Type 0 where
  pub text : is_utf8 t ≡ true
  pub other : starts_with nat_eq t q ≡ false

-- no text up to such a greatest value begins so
pub before-otherwise : (q t : List ℕ) (greatest : Option Datum) → is_before q greatest ≡ true → is_up_to greatest (utf8 t) ≡ true → BeginsOtherwise q t
before-otherwise q t None b i = cc
before-otherwise q t (Some g) b i =
    let text = (and_parts _ _ (at_most-left (utf8 t) g i)).0 in
    record {
      text = text;
      other = false_from_ne_true _ (λ e. both_ways _ (not-true _ (and_parts _ _ (before-begins q t g b text e)).1) i);
    }

-- nor does any from such a least value on
pub past-otherwise : (q t : List ℕ) (least : Option Datum) → is_past q least ≡ true → is_from least (utf8 t) ≡ true → BeginsOtherwise q t
past-otherwise q t None b i = cc
past-otherwise q t (Some l) b i =
    let text = (and_parts _ _ (at_most-right l (utf8 t) i)).0 in
    record {
      text = text;
      other = false_from_ne_true _ (λ e. both_ways _ (not-true _ (and_parts _ _ (past-begins q t l b text e)).1) i);
    }

-- a lesser greatest value comes before them too
pub before-within : (q : List ℕ) (g h : Option Datum) → ends_within g h ≡ true → is_before q h ≡ true → is_before q g ≡ true
before-within q g None e b = cc
before-within q None (Some h) e b = cc
before-within q (Some g) (Some h) e b = below-wider g h (utf8 q) (utf8 q) e b (at_most-right h (utf8 q) (and_parts _ _ b).0)

-- and a greater least value behind them
pub past-within : (q : List ℕ) (l m : Option Datum) → starts_within l m ≡ true → is_past q m ≡ true → is_past q l ≡ true
past-within q l None e b = cc
past-within q None (Some m) e b = cc
past-within q (Some l) (Some m) e b =
    let x = and_parts _ _ b in
    and_from _ _ (at_most-trans (utf8 q) m l x.0 e) (not_from_false _ (false_from_ne_true _ (λ h. both_ways (begins q m) (not-true _ x.1) (behind l e h))))
  where
    behind : (l : Datum) → at_most m l ≡ true → begins q l ≡ true → begins q m ≡ true
    behind (utf8 t) e h = between-begins q m t (and_parts _ _ b).0 e h
    behind null e h = cc
    behind (bool z) e h = cc
    behind (int z) e h = cc
    behind (float z) e h = cc
    behind (bytes z) e h = cc
    behind (list_of z) e h = cc
    behind (struct_of z) e h = cc

-- ---- the only text between two ends

-- what the ends are, where there is but one text
pub record Only (least greatest : Option Datum) (p : List ℕ) : Type 0 where
  pub end : Datum
  pub from : least ≡ Some (utf8 p)
  pub up_to : greatest ≡ Some end
  pub short : at_most end (utf8 p) ≡ true

pub only : (least greatest : Option Datum) (p : List ℕ) → text_between least greatest ≡ Some p → Only least greatest p
only (Some (utf8 s)) (Some g) p e = elim (cases_Bool (at_most g (utf8 s))) [
  | inl h ↦ let f = rw h at e in let same : s ≡ p = cc in record { end = g; from = ap (λ z. Some (utf8 z)) same; up_to = refl; short = subst (λ z. at_most g (utf8 z) ≡ true) same h }
  | inr h ↦ let f = rw h at e in cc
]
only _ _ p e = cc

from_only : (p : List ℕ) (g : Datum) → at_most g (utf8 p) ≡ true → text_between (Some (utf8 p)) (Some g) ≡ Some p
from_only p g h = rw h refl

-- a value between them is that text
pub only-value : (least greatest : Option Datum) (p : List ℕ) (v : Datum) → text_between least greatest ≡ Some p → is_from least v ≡ true → is_up_to greatest v ≡ true → v ≡ utf8 p
only-value least greatest p v e i j =
    let o = only least greatest p e in
    let low : at_most (utf8 p) v ≡ true = rw o.from at i in
    let high : at_most v o.end ≡ true = rw o.up_to at j in
    at_most-antisym v (utf8 p) (at_most-trans v o.end (utf8 p) high o.short) low

-- it is the only text between ends within these, if there is one
pub only-within : (l g m h : Option Datum) (p : List ℕ) → starts_within l m ≡ true → ends_within g h ≡ true → is_interval l g ≡ true → text_between m h ≡ Some p → text_between l g ≡ Some p
only-within l g m h p e f i k = go l g (rw (only m h p k).from at e) (rw (only m h p k).up_to at f) i
  where
    go : (l g : Option Datum) → starts_within l (Some (utf8 p)) ≡ true → ends_within g (Some (only m h p k).end) ≡ true → is_interval l g ≡ true → text_between l g ≡ Some p
    go None g e f i = cc
    go (Some l) None e f i = cc
    go (Some l) (Some g) e f i =
        let short = at_most-trans g (only m h p k).end (utf8 p) f (only m h p k).short in
        let same = at_most-antisym l (utf8 p) (at_most-trans l g (utf8 p) i short) e in
        rw same (from_only p g short)

-- ---- as bytes tell

pub beginning_cmp-before : (q t : List ℕ) → IsUtf8 q → IsUtf8 t → is_gt (beginning_cmp q t) ≡ is_before q (Some (utf8 t))
beginning_cmp-before q t u v = beginning_cmp-gt q t ∙ rw (is_utf8-from_IsUtf8 q u, is_utf8-from_IsUtf8 t v) (by (slice_cmp nat_cmp q t) (slice_cmp nat_cmp t q) (nat_list_cmp_total.antisymm t q))
  where
    by : (o r : Ordering) → r ≡ ordering_reverse o → not (is_le o) ≡ (is_le r && not (is_le o))
    by Less r e = rw e refl
    by Equal r e = rw e refl
    by Greater r e = rw e refl

pub beginning_cmp-past : (q t : List ℕ) → IsUtf8 q → IsUtf8 t → is_lt (beginning_cmp q t) ≡ is_past q (Some (utf8 t))
beginning_cmp-past q t u v = beginning_cmp-lt q t ∙ rw (is_utf8-from_IsUtf8 q u, is_utf8-from_IsUtf8 t v) refl

pub told-before : (p t : List ℕ) → IsUtf8 p → IsUtf8 t → is_gt (beginning_cmp (beginning false p) t) ≡ is_before (beginning false p) (Some (utf8 t))
told-before p t u v = beginning_cmp-before (beginning false p) t (beginning-IsUtf8 false p u) v

pub told-past : (p t : List ℕ) → IsUtf8 p → IsUtf8 t → is_lt (beginning_cmp (beginning false p) t) ≡ is_past (beginning false p) (Some (utf8 t))
told-past p t u v = beginning_cmp-past (beginning false p) t (beginning-IsUtf8 false p u) v
