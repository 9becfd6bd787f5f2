-- Bounds of operands that say more give bounds that say more.
use Rattle.std.proofs.Common.{◌≡◌, refl, Bool, true, false, ◌&&◌, ◌||◌, not, List, [], ◌∷◌}
use Rattle.std.specs.Prelude.{Option, Some, None, if◌then◌else◌}
use Rattle.std.proofs.lemmas.Bool.{and_parts, and_from, or_left, or_right}
use Rattle.vx_dtype.specs.Lists.{Forall2, forall2_nil, forall2_cons}
use Rattle.vx_value.specs.Types.{Datum, null, bool}
use Rattle.vx_floats.specs.declared.arithmetic.Arithmetic.{Arithmetic}
use Rattle.vx_fn.specs.Functions.{Operation, compares, and_also, or_else, computes, Comparison, equal, not_equal, greater, greater_or_equal, less, less_or_equal}
use Rattle.vx_fn.specs.Values.{bound_comparison}
use Rattle.vx_prune_bounds.specs.Order.{at_most, below}
use Rattle.vx_prune_bounds.specs.Bounds.{Bounds, exactly, starts_within, ends_within, IsWithin, is_interval, IsProper}
use Rattle.vx_prune_bounds.specs.Spans.{Side, Least, Greatest, span_end}
use Rattle.vx_prune_bounds.specs.Truths.{Truths, MayBe, AreWithin, truths_in, truth_bounds, not_truths, and_truths, or_truths, may_fail}
use Rattle.vx_prune_bounds.specs.Comparing.{both_known, all_at_most, all_below, surely, opposite, comparison_truths, operation_truths, between_truths}
use Rattle.vx_prune_bounds.specs.Kernels.{span, arithmetic_end, arithmetic_bounds, only_if, not_null, fill_bounds, choice_bounds, mask_bounds, case_bounds, null_truths, shaped_as}
use Rattle.vx_prune_bounds.proofs.Ordered.{at_most-trans, below-wider}
use Rattle.vx_prune_bounds.proofs.Contained.{at_either, implied, implies, within, from_within, contains-wider, within-refl, nothing-within, nothing-proper, exactly-proper}
use Rattle.vx_prune_bounds.proofs.Lattice.{join-mono, join-proper}
use Rattle.vx_prune_bounds.proofs.Sounds.{May, may_null, may_no, may_yes, may}
use Rattle.vx_prune_bounds.proofs.Corners.{Closer}
use Rattle.vx_prune_bounds.proofs.Spanned.{Ordered, SpanWithin, closer, ends-ordered}
use Rattle.vx_prune_bounds.proofs.Sums.{interval_of, ordered_ends, whole_starts, whole_ends, number_starts, number_ends}

-- ---- the order of truths

pub record Fewer (s t : Truths) : Type 0 where
  pub null : s.null ≡ true → t.null ≡ true
  pub no : s.no ≡ true → t.no ≡ true
  pub yes : s.yes ≡ true → t.yes ≡ true

pub fewer : (s t : Truths) → AreWithin s t → Fewer s t
fewer s t e =
    let p = and_parts _ _ e in
    let q = and_parts _ _ p.1 in
    record { null = implies _ _ p.0; no = implies _ _ q.0; yes = implies _ _ q.1 }

pub from_fewer : (s t : Truths) → Fewer s t → AreWithin s t
from_fewer s t f = and_from _ _ (implied _ _ f.null) (and_from _ _ (implied _ _ f.no) (implied _ _ f.yes))

pub are_within-refl : (t : Truths) → AreWithin t t
are_within-refl t = from_fewer t t (record { null = λ e. e; no = λ e. e; yes = λ e. e })

pub are_within-trans : (r s t : Truths) → AreWithin r s → AreWithin s t → AreWithin r t
are_within-trans r s t e f =
    let p = fewer r s e in
    let q = fewer s t f in
    from_fewer r t (record { null = λ h. q.null (p.null h); no = λ h. q.no (p.no h); yes = λ h. q.yes (p.yes h) })

pub may_be-wider : (s t : Truths) (v : Datum) → AreWithin s t → MayBe s v → MayBe t v
may_be-wider s t v e h = go (may s v h)
  where
    f : Fewer s t
    f = fewer s t e

    go : {v : Datum} → May s v → MayBe t v
    go (may_null e) = f.null e
    go (may_no e) = f.no e
    go (may_yes e) = f.yes e

-- ---- truths and bounds

pub truths_in-mono : (a b : Bounds) → IsWithin a b → AreWithin (truths_in a) (truths_in b)
truths_in-mono a b e = from_fewer (truths_in a) (truths_in b) (record {
  null = contains-wider a b null e;
  no = contains-wider a b (bool false) e;
  yes = contains-wider a b (bool true) e;
})

-- ends of truth values: the fewer may be, the closer
least-mono : (x y : Bool) → (x ≡ true → y ≡ true) → starts_within (Some (bool (if x then false else true))) (Some (bool (if y then false else true))) ≡ true
least-mono true true f = refl
least-mono true false f = let q = f refl in cc
least-mono false true f = refl
least-mono false false f = refl

greatest-mono : (x y : Bool) → (x ≡ true → y ≡ true) → ends_within (Some (bool (if x then true else false))) (Some (bool (if y then true else false))) ≡ true
greatest-mono true true f = refl
greatest-mono true false f = let q = f refl in cc
greatest-mono false true f = refl
greatest-mono false false f = refl

pub truth_bounds-mono : (s t : Truths) → AreWithin s t → IsWithin (truth_bounds s) (truth_bounds t)
truth_bounds-mono s t e =
    let f = fewer s t e in
    from_within (truth_bounds s) (truth_bounds t) (record {
      null = f.null;
      value = λ h. at_either s.no s.yes h (λ n. or_left _ _ (f.no n)) (λ y. or_right _ _ (f.yes y));
      starts = λ _. least-mono s.no t.no f.no;
      ends = λ _. greatest-mono s.yes t.yes f.yes;
    })

interval_of_truths : (f y : Bool) → (not (f || y) || is_interval (Some (bool (if f then false else true))) (Some (bool (if y then true else false)))) ≡ true
interval_of_truths true true = refl
interval_of_truths true false = refl
interval_of_truths false true = refl
interval_of_truths false false = refl

pub truth_bounds-proper : (t : Truths) → IsProper (truth_bounds t)
truth_bounds-proper t = interval_of_truths t.no t.yes

-- ---- Kleene's tables

pub not-mono : (s t : Truths) → AreWithin s t → AreWithin (not_truths s) (not_truths t)
not-mono s t e = let f = fewer s t e in from_fewer (not_truths s) (not_truths t) (record { null = f.null; no = f.yes; yes = f.no })

pub and-mono : (s s' t t' : Truths) → AreWithin s s' → AreWithin t t' → AreWithin (and_truths s t) (and_truths s' t')
and-mono s s' t t' e d =
    let f = fewer s s' e in
    let g = fewer t t' d in
    from_fewer (and_truths s t) (and_truths s' t') (record {
      null = λ h. at_either (s.null && (t.null || t.yes)) (t.null && s.yes) h
          (λ k. let p = and_parts _ _ k in or_left _ _ (and_from _ _ (f.null p.0) (at_either t.null t.yes p.1 (λ n. or_left _ _ (g.null n)) (λ y. or_right _ _ (g.yes y)))))
          (λ k. let p = and_parts _ _ k in or_right _ _ (and_from _ _ (g.null p.0) (f.yes p.1)));
      no = λ h. at_either s.no t.no h (λ k. or_left _ _ (f.no k)) (λ k. or_right _ _ (g.no k));
      yes = λ h. let p = and_parts _ _ h in and_from _ _ (f.yes p.0) (g.yes p.1);
    })

pub or-mono : (s s' t t' : Truths) → AreWithin s s' → AreWithin t t' → AreWithin (or_truths s t) (or_truths s' t')
or-mono s s' t t' e d =
    not-mono (and_truths (not_truths s) (not_truths t)) (and_truths (not_truths s') (not_truths t'))
    (and-mono (not_truths s) (not_truths s') (not_truths t) (not_truths t') (not-mono s s' e) (not-mono t t' d))

pub may_fail-mono : (s t : Truths) → AreWithin s t → may_fail s ≡ true → may_fail t ≡ true
may_fail-mono s t e h = let f = fewer s t e in at_either s.null s.no h (λ n. or_left _ _ (f.null n)) (λ n. or_right _ _ (f.no n))

-- ---- comparisons

closer_at_most : (g l h m : Option Datum) → ends_within g h ≡ true → starts_within l m ≡ true → both_known at_most h m ≡ true → both_known at_most g l ≡ true
closer_at_most g l None m e f k = cc
closer_at_most g l (Some h) None e f k = cc
closer_at_most None l (Some h) (Some m) e f k = cc
closer_at_most (Some g) None (Some h) (Some m) e f k = cc
closer_at_most (Some g) (Some l) (Some h) (Some m) e f k = at_most-trans g m l (at_most-trans g h m e k) f

closer_below : (g l h m : Option Datum) → ends_within g h ≡ true → starts_within l m ≡ true → both_known below h m ≡ true → both_known below g l ≡ true
closer_below g l None m e f k = cc
closer_below g l (Some h) None e f k = cc
closer_below None l (Some h) (Some m) e f k = cc
closer_below (Some g) None (Some h) (Some m) e f k = cc
closer_below (Some g) (Some l) (Some h) (Some m) e f k = below-wider g h m l e k f

-- what is sure of bounds is sure of those that say more, where both may have a value
module _ (x x' y y' : Bounds) (e : IsWithin x x') (f : IsWithin y y') (v : x.value ≡ true) (w : y.value ≡ true) where
  at_most-mono : all_at_most x' y' ≡ true → all_at_most x y ≡ true
  at_most-mono = closer_at_most x.greatest y.least x'.greatest y'.least ((within x x' e).ends v) ((within y y' f).starts w)

  at_most-mono-turned : all_at_most y' x' ≡ true → all_at_most y x ≡ true
  at_most-mono-turned = closer_at_most y.greatest x.least y'.greatest x'.least ((within y y' f).ends w) ((within x x' e).starts v)

  below-mono : all_below x' y' ≡ true → all_below x y ≡ true
  below-mono = closer_below x.greatest y.least x'.greatest y'.least ((within x x' e).ends v) ((within y y' f).starts w)

  below-mono-turned : all_below y' x' ≡ true → all_below y x ≡ true
  below-mono-turned = closer_below y.greatest x.least y'.greatest x'.least ((within y y' f).ends w) ((within x x' e).starts v)

  pub surely-mono : (c : Comparison) → surely c x' y' ≡ true → surely c x y ≡ true
  surely-mono equal k = let p = and_parts _ _ k in and_from _ _ (at_most-mono p.0) (at_most-mono-turned p.1)
  surely-mono not_equal k = at_either (all_below x' y') (all_below y' x') k (λ p. or_left _ _ (below-mono p)) (λ p. or_right _ _ (below-mono-turned p))
  surely-mono greater k = below-mono-turned k
  surely-mono greater_or_equal k = at_most-mono-turned k
  surely-mono less k = below-mono k
  surely-mono less_or_equal k = at_most-mono k

not-back : (a b : Bool) → (b ≡ true → a ≡ true) → not a ≡ true → not b ≡ true
not-back a true f e = let q = f refl in cc
not-back a false f e = refl

pub comparison-mono : (c : Comparison) (x x' y y' : Bounds) → IsWithin x x' → IsWithin y y' → AreWithin (comparison_truths c x y) (comparison_truths c x' y')
comparison-mono c x x' y y' e f =
    let p = within x x' e in
    let q = within y y' f in
    from_fewer (comparison_truths c x y) (comparison_truths c x' y') (record {
      null = λ h. at_either x.null y.null h (λ n. or_left _ _ (p.null n)) (λ n. or_right _ _ (q.null n));
      no = λ h. unsure c (and_parts _ _ h).0 (and_parts _ _ h).1;
      yes = λ h. unsure (opposite c) (and_parts _ _ h).0 (and_parts _ _ h).1;
    })
  where
    unsure : (c : Comparison) → (x.value && y.value) ≡ true → not (surely c x y) ≡ true → ((x'.value && y'.value) && not (surely c x' y')) ≡ true
    unsure c h k =
        let v = and_parts x.value y.value h in
        and_from _ _ (and_from _ _ ((within x x' e).value v.0) ((within y y' f).value v.1)) (not-back (surely c x y) (surely c x' y') (surely-mono x x' y y' e f v.0 v.1 c) k)

pub operation-mono : (o : Operation) (x x' y y' : Bounds) → IsWithin x x' → IsWithin y y' → AreWithin (operation_truths o x y) (operation_truths o x' y')
operation-mono (compares c) x x' y y' e f = comparison-mono c x x' y y' e f
operation-mono and_also x x' y y' e f = refl
operation-mono or_else x x' y y' e f = refl
operation-mono (computes a) x x' y y' e f = refl

pub between-mono : (ls us : Bool) (x x' l l' u u' : Bounds) → IsWithin x x' → IsWithin l l' → IsWithin u u' → AreWithin (between_truths ls us x l u) (between_truths ls us x' l' u')
between-mono ls us x x' l l' u u' e f g =
    and-mono (comparison_truths (bound_comparison ls) l x) (comparison_truths (bound_comparison ls) l' x') (comparison_truths (bound_comparison us) x u) (comparison_truths (bound_comparison us) x' u')
    (comparison-mono (bound_comparison ls) l l' x x' f e) (comparison-mono (bound_comparison us) x x' u u' e g)

-- ---- arithmetic

-- spans of bounds that may have a value, and of those that say less
span-within : (x x' : Bounds) → IsWithin x x' → x.value ≡ true → SpanWithin (span x) (span x')
span-within x x' e v = let p = within x x' e in record { least = whole_starts x.least x'.least (p.starts v); greatest = whole_ends x.greatest x'.greatest (p.ends v) }

span-ordered : (x : Bounds) → IsProper x → x.value ≡ true → Ordered (span x).least (span x).greatest
span-ordered x p v = ordered_ends x.least x.greatest (implies _ _ p v)

pub arithmetic-mono : (a : Arithmetic) (x x' y y' : Bounds) → IsProper x → IsProper y → IsWithin x x' → IsWithin y y' → IsWithin (arithmetic_bounds a x y) (arithmetic_bounds a x' y')
arithmetic-mono a x x' y y' o u e f =
    let p = within x x' e in
    let q = within y y' f in
    from_within (arithmetic_bounds a x y) (arithmetic_bounds a x' y') (record {
      null = λ h. at_either x.null y.null h (λ n. or_left _ _ (p.null n)) (λ n. or_right _ _ (q.null n));
      value = λ h. let v = and_parts x.value y.value h in and_from _ _ (p.value v.0) (q.value v.1);
      starts = λ h. number_starts (span_end a Least (span x) (span y)) (span_end a Least (span x') (span y')) (ends Least (and_parts x.value y.value h).0 (and_parts x.value y.value h).1);
      ends = λ h. number_ends (span_end a Greatest (span x) (span y)) (span_end a Greatest (span x') (span y')) (ends Greatest (and_parts x.value y.value h).0 (and_parts x.value y.value h).1);
    })
  where
    ends : (s : Side) → x.value ≡ true → y.value ≡ true → Closer s (span_end a s (span x) (span y)) (span_end a s (span x') (span y'))
    ends s v w = closer a s (span x) (span x') (span y) (span y') (span-within x x' e v) (span-within y y' f w) (span-ordered x o v) (span-ordered y u w)

pub arithmetic-proper : (a : Arithmetic) (x y : Bounds) → IsProper x → IsProper y → IsProper (arithmetic_bounds a x y)
arithmetic-proper a x y p q = implied (x.value && y.value) (is_interval (arithmetic_end a Least x y) (arithmetic_end a Greatest x y)) (λ h.
    let v = and_parts x.value y.value h in
    interval_of (span_end a Least (span x) (span y)) (span_end a Greatest (span x) (span y)) (ends-ordered a (span x) (span y) (span-ordered x p v.0) (span-ordered y q v.1)))

-- ---- fills, choices and null

pub not_null-mono : (x x' : Bounds) → IsWithin x x' → IsWithin (not_null x) (not_null x')
not_null-mono x x' e = let p = within x x' e in from_within (not_null x) (not_null x') (record { null = λ h. h; value = p.value; starts = p.starts; ends = p.ends })

pub only_if-mono : (b b' : Bool) (x x' : Bounds) → (b ≡ true → b' ≡ true) → IsWithin x x' → IsWithin (only_if b x) (only_if b' x')
only_if-mono true true x x' f e = e
only_if-mono true false x x' f e = let q = f refl in cc
only_if-mono false b' x x' f e = nothing-within (only_if b' x')

pub fill-mono : (x x' fill fill' : Bounds) → IsWithin x x' → IsWithin fill fill' → IsWithin (fill_bounds x fill) (fill_bounds x' fill')
fill-mono x x' fill fill' e f =
    join-mono (not_null x) (not_null x') (only_if x.null fill) (only_if x'.null fill') (not_null-mono x x' e) (only_if-mono x.null x'.null fill fill' (within x x' e).null f)

pub choice-mono : (s s' : Truths) (x x' y y' : Bounds) → AreWithin s s' → IsWithin x x' → IsWithin y y' → IsWithin (choice_bounds s x y) (choice_bounds s' x' y')
choice-mono s s' x x' y y' d e f =
    join-mono (only_if s.yes x) (only_if s'.yes x') (only_if (may_fail s) y) (only_if (may_fail s') y')
    (only_if-mono s.yes s'.yes x x' (fewer s s' d).yes e) (only_if-mono (may_fail s) (may_fail s') y y' (may_fail-mono s s' d) f)

pub mask-mono : (x x' : Bounds) (s s' : Truths) → IsWithin x x' → AreWithin s s' → IsWithin (mask_bounds x s) (mask_bounds x' s')
mask-mono x x' s s' e d = choice-mono s s' x x' (exactly null) (exactly null) d e (within-refl (exactly null) (exactly-proper null))

pub case-mono : {bs bs' : List Bounds} → Forall2 IsWithin bs bs' → IsWithin (case_bounds bs) (case_bounds bs')
case-mono forall2_nil = within-refl (exactly null) (exactly-proper null)
case-mono (forall2_cons e forall2_nil) = e
case-mono (forall2_cons {x = c} {y = c'} d (forall2_cons {x = x} {y = x'} {xs = bs} {ys = bs'} e rest)) =
    choice-mono (truths_in c) (truths_in c') x x' (case_bounds bs) (case_bounds bs') (truths_in-mono c c' d) e (case-mono rest)

pub null-mono : (x x' : Bounds) → IsWithin x x' → AreWithin (null_truths x) (null_truths x')
null-mono x x' e = let p = within x x' e in from_fewer (null_truths x) (null_truths x') (record { null = λ h. h; no = p.value; yes = p.null })

pub shaped_as-mono : (x x' : Bounds) → IsWithin x x' → IsWithin (shaped_as x) (shaped_as x')
shaped_as-mono x x' e = let p = within x x' e in from_within (shaped_as x) (shaped_as x') (record { null = p.null; value = p.value; starts = λ _. refl; ends = λ _. refl })

pub not_null-proper : (x : Bounds) → IsProper x → IsProper (not_null x)
not_null-proper x p = p

pub only_if-proper : (b : Bool) (x : Bounds) → IsProper x → IsProper (only_if b x)
only_if-proper true x p = p
only_if-proper false x p = nothing-proper

pub fill-proper : (x fill : Bounds) → IsProper x → IsProper fill → IsProper (fill_bounds x fill)
fill-proper x fill p q = join-proper (not_null x) (only_if x.null fill) (not_null-proper x p) (only_if-proper x.null fill q)

pub choice-proper : (s : Truths) (x y : Bounds) → IsProper x → IsProper y → IsProper (choice_bounds s x y)
choice-proper s x y p q = join-proper (only_if s.yes x) (only_if (may_fail s) y) (only_if-proper s.yes x p) (only_if-proper (may_fail s) y q)

pub mask-proper : (x : Bounds) (s : Truths) → IsProper x → IsProper (mask_bounds x s)
mask-proper x s p = choice-proper s x (exactly null) p (exactly-proper null)

-- each of the bounds is proper
abbrev pub EachProper : List Bounds → Type 0
EachProper [] = Unit {0}
EachProper (b ∷ bs) = IsProper b × EachProper bs

pub case-proper : (bs : List Bounds) → EachProper bs → IsProper (case_bounds bs)
case-proper [] p = exactly-proper null
case-proper (e ∷ []) p = p.0
case-proper (c ∷ v ∷ rest) p = choice-proper (truths_in c) v (case_bounds rest) p.1.0 (case-proper rest p.1.1)

pub shaped_as-proper : (x : Bounds) → IsProper (shaped_as x)
shaped_as-proper x = implied x.value true (λ _. refl)
