-- What is mergeable, by the sides and items of ranges.
use Rattle.std.proofs.Common.{◌≡◌, List, [], ◌∷◌, ◌++◌, length, refl, sym, ap, ◌∙◌, Bool, true, false, arith, length-append, ◌≤◌}
use Rattle.std.specs.Prelude.{Option, Some, None, if◌then◌else◌}
use Rattle.vx_fn.specs.Functions.{binary, and_also}
use Rattle.vx_tree.specs.Equality.{equal_bound, equal_bound-Decides}
use Rattle.vx_tree.specs.Trees.{BoundTree, node, bound, no_bound}
use Rattle.vx_rewrite_fusing.specs.declared.places.Place.{Place}
use Rattle.vx_rewrite_fusing.specs.declared.places.Place.TheVariants.{Open}
use Rattle.vx_rewrite_fusing.specs.declared.ranges.Side.{Side}
use Rattle.vx_rewrite_fusing.specs.declared.ranges.Side.TheVariants.{Below, Above}
use Rattle.vx_rewrite_fusing.specs.Conjuncts.{is_and, Range, from_below, from_above, range_of, MergeTo, below_and_above, above_and_below, between_node, Mergeable}
use Rattle.vx_rewrite_fusing.specs.Finding.{range_from}
use Rattle.vx_rewrite_fusing.specs.Places.{turned, Bounded, bounded_by, Holds, no_range, open_range, merged_range, gone_range, both}
use Rattle.vx_rewrite_fusing.specs.Sides.{after_single, between_of, merged_with, with_merged}

-- the side and the item of a range
abbrev pub key_of : Range → Bounded
key_of (from_below strict x y) = (Below, x)
key_of (from_above strict x y) = (Above, x)

abbrev pub keyed : Option Range → Option Bounded
keyed None = None
keyed (Some r) = Some (key_of r)

pub seen_key : (s : Side) (strict : Bool) (x y : BoundTree) → key_of (range_from s strict x y) ≡ (s, x)
seen_key Below strict x y = refl
seen_key Above strict x y = refl

-- ---- the Between of two ranges

other_items : (x w n : BoundTree) → (x ≡ w → ⊥) → (if equal_bound x w then Some n else None) ≡ None
other_items x w n apart = go (equal_bound x w) refl
  where
    go : (r : Bool) → equal_bound x w ≡ r → (if equal_bound x w then Some n else None) ≡ None
    go true e = absurd (apart ((equal_bound-Decides x w).0 e))
    go false e = rw e refl

one_item : (x w n m : BoundTree) → (if equal_bound x w then Some n else None) ≡ Some m → (x ≡ w) × (n ≡ m)
one_item x w n m = go (equal_bound x w) refl
  where
    go : (r : Bool) → equal_bound x w ≡ r → (if equal_bound x w then Some n else None) ≡ Some m → (x ≡ w) × (n ≡ m)
    go true e h = ((equal_bound-Decides x w).0 e, let g : Some n ≡ Some m = rw e at h in cc)
    go false e h = let g : ◌≡◌ {A = Option BoundTree} None (Some m) = rw e at h in cc

pub no_between : (c d : Option Range) → ((k : Bounded) → keyed c ≡ Some (turned k) → keyed d ≡ Some k → ⊥) → between_of c d ≡ None
no_between None d f = refl
no_between (Some (from_below ls x y)) None f = refl
no_between (Some (from_above us x z)) None f = refl
no_between (Some (from_below ls x y)) (Some (from_below us w z)) f = refl
no_between (Some (from_above ls x y)) (Some (from_above us w z)) f = refl
no_between (Some (from_below ls x y)) (Some (from_above us w z)) f = other_items x w _ (λ same. f (Above, w) (ap (λ v. Some (Below, v)) same) refl)
no_between (Some (from_above us x z)) (Some (from_below ls w y)) f = other_items x w _ (λ same. f (Below, w) (ap (λ v. Some (Above, v)) same) refl)

equal_itself : (x : BoundTree) → equal_bound x x ≡ true
equal_itself x = (equal_bound-Decides x x).1 refl

pub merge_between : {c d m : BoundTree} → MergeTo c d m → between_of (range_of c) (range_of d) ≡ Some m
merge_between (below_and_above {x = x} e f) = rw (e, f, equal_itself x) refl
merge_between (above_and_below {x = x} e f) = rw (e, f, equal_itself x) refl

pub between_merge : (c d m : BoundTree) → between_of (range_of c) (range_of d) ≡ Some m → MergeTo c d m
between_merge c d m = go (range_of c) (range_of d) refl refl
  where
    go : (a b : Option Range) → range_of c ≡ a → range_of d ≡ b → between_of a b ≡ Some m → MergeTo c d m
    go None b e f h = cc
    go (Some (from_below ls x y)) None e f h = cc
    go (Some (from_above us x z)) None e f h = cc
    go (Some (from_below ls x y)) (Some (from_below us w z)) e f h = cc
    go (Some (from_above ls x y)) (Some (from_above us w z)) e f h = cc
    go (Some (from_below ls x y)) (Some (from_above us w z)) e f h = let s = one_item x w _ m h in rw (← s.1) (below_and_above e (f ∙ ap (λ v. Some (from_above us v z)) (sym s.0)))
    go (Some (from_above us x z)) (Some (from_below ls w y)) e f h = let s = one_item x w _ m h in rw (← s.1) (above_and_below e (f ∙ ap (λ v. Some (from_below ls v y)) (sym s.0)))

pub between_none : (c d : BoundTree) → between_of (range_of c) (range_of d) ≡ None → Mergeable c d → ⊥
between_none c d e k = let f : ◌≡◌ {A = Option BoundTree} None (Some k.0) = sym e ∙ merge_between k.1 in cc

pub between_plain : {c d m : BoundTree} → MergeTo c d m → (is_and m ≡ false) × (range_of m ≡ None)
between_plain (below_and_above e f) = (refl, refl)
between_plain (above_and_below e f) = (refl, refl)

-- ---- single conjuncts

pub with_single : (d c : BoundTree) → is_and c ≡ false → with_merged d c ≡ between_of (range_of c) (range_of d)
with_single d (node t (binary and_also) (bound l (bound r no_bound))) e = cc
with_single d _ e = refl

pub single_merged : (l d : BoundTree) → is_and d ≡ false → merged_with l d ≡ after_single l d (with_merged d l)
single_merged l (node t (binary and_also) (bound x (bound y no_bound))) e = cc
single_merged l _ e = refl

some_place : {a : BoundTree} {v : Option BoundTree} {xs : List Place} → Holds a xs v → 1 ≤ length xs
some_place (no_range a n) = omega arith
some_place (open_range a n) = omega arith
some_place (merged_range a x n) = omega arith
some_place (gone_range a) = omega arith
some_place (both {ls = xs} {rs = ys} same x y) = let i = some_place x in omega (arith, length-append ys xs)

-- what a single place holds is a conjunct with the place's side and item
pub record IsKeyed (p : Place) (v : BoundTree) : Type 0 where
  pub no_and : is_and v ≡ false
  pub key : keyed (range_of v) ≡ bounded_by p

pub single_keyed : {c v : BoundTree} {p : Place} → Holds c (p ∷ []) (Some v) → IsKeyed p v
single_keyed {v = v} {p = p} h = go h refl refl
  where
    two_places : {a b : BoundTree} {v w : Option BoundTree} {xs ys : List Place} → Holds a xs v → Holds b ys w → ys ++ xs ≡ p ∷ [] → ⊥
    two_places {xs = xs} {ys = ys} x y e = let i = some_place x in let j = some_place y in omega (arith, ap length e, length-append ys xs)

    go : {c : BoundTree} {ps : List Place} {o : Option BoundTree} → Holds c ps o → ps ≡ p ∷ [] → o ≡ Some v → IsKeyed p v
    go (no_range {c = c} a n) e f =
        let same : c ≡ v = cc in
        let own : bounded_by p ≡ None = (let g = ap (λ (z : List Place). z) e in cc) in
        record { no_and = rw (← same) a; key = rw (← same) (ap keyed n ∙ sym own) }
    go (open_range {c = c} {r = r} {next = next} a n) e f =
        let same : c ≡ v = cc in
        let own : Open r next ≡ p = cc in
        record { no_and = rw (← same) a; key = rw (← same) (ap keyed n ∙ (ap Some (seen_key r.side _ _ _) ∙ ap bounded_by own)) }
    go (merged_range {b = b} a m n) e f =
        let own : bounded_by p ≡ None = cc in
        record { no_and = (let g = f in cc); key = cc }
    go (gone_range a) e f = cc
    go (both same x y) e f = absurd (two_places x y e)
