-- The pairs of two trees in the order of the left conjuncts, and in the order of the right ones.
use Rattle.std.proofs.Common.{◌≡◌, [], ◌∷◌, refl, sym, subst, ap, ◌∙◌, false}
use Rattle.std.specs.Prelude.{Option, Some, None}
use Rattle.vx_fn.specs.Functions.{and_also, binary}
use Rattle.vx_tree.specs.Trees.{BoundTree, node, bound, no_bound, WellTyped}
use Rattle.vx_rewrite_fusing.specs.Conjuncts.{and_node, and_of, is_and, conjuncts, conjoined, NoneMergeable, IsBinary}
use Rattle.vx_rewrite_fusing.specs.Finding.{LeftMerged, PairsMerged, with_pairs, without_pairs}
use Rattle.vx_rewrite_fusing.specs.Sides.{after_single, both_merged, changed_of, merged_with, with_merged}
use Rattle.vx_rewrite_fusing.proofs.Ands.{and_parts_of, typed_and}
use Rattle.vx_rewrite_fusing.proofs.Found.{left_alone, left_in_first, left_in_second, left_none, left_none_alone, right_none, right_none_single, right_single}
use Rattle.vx_rewrite_fusing.proofs.Keyed.{between_merge, between_none, single_merged}
use Rattle.vx_rewrite_fusing.proofs.Pairing.{first_and_second, pairs_single, second_alone}

-- two trees after another
abbrev pub Both : Type 0
Both = Option BoundTree × Option BoundTree

joined_none : (o : Option BoundTree) → conjoined o None ≡ o
joined_none None = refl
joined_none (Some r) = refl

-- ---- the right conjuncts one after another

abbrev pub rights_after : Both → Option BoundTree → Both
rights_after p y = ((both_merged p.0 y).0, conjoined p.1 (both_merged p.0 y).1)

pub rights_in_order : (l x y : Option BoundTree) → both_merged l (conjoined x y) ≡ rights_after (both_merged l x) y
rights_in_order None x y = refl
rights_in_order (Some l) None y = refl
rights_in_order (Some l) (Some x) None = ap (λ z. (Some (merged_with l x).0, z)) (sym (joined_none (merged_with l x).1))
rights_in_order (Some l) (Some x) (Some y) = refl

-- ---- the left conjuncts one after another

abbrev pub lefts_after : Both → Option BoundTree → Both
lefts_after p y = (conjoined p.0 (both_merged y p.1).0, (both_merged y p.1).1)

single_both : (l d : BoundTree) → is_and d ≡ false → both_merged (Some l) (Some d) ≡ (Some (after_single l d (with_merged d l)).0, (after_single l d (with_merged d l)).1)
single_both l d e = ap (λ z. (Some z.0, z.1)) (single_merged l d e)

lefts_single : (x y d : BoundTree) → is_and d ≡ false → both_merged (Some (and_of x y)) (Some d) ≡ lefts_after (both_merged (Some x) (Some d)) (Some y)
lefts_single x y d e = single_both (and_of x y) d e ∙ (go (with_merged d x) (with_merged d y) (single_both y d e) ∙ ap (λ z. lefts_after z (Some y)) (sym (single_both x d e)))
  where
    go : (u v : Option BoundTree) → both_merged (Some y) (Some d) ≡ (Some (after_single y d v).0, (after_single y d v).1)
        → (Some (after_single (and_of x y) d (changed_of x y u v)).0, (after_single (and_of x y) d (changed_of x y u v)).1) ≡ lefts_after (Some (after_single x d u).0, (after_single x d u).1) (Some y)
    go (Some u) v q = refl
    go None (Some v) q = sym (ap (λ (z : Both). (conjoined (Some x) z.0, z.1)) q)
    go None None q = sym (ap (λ (z : Both). (conjoined (Some x) z.0, z.1)) q)

-- what is left of a left tree is a tree
some_left : (l : BoundTree) (o : Option BoundTree) → (u : BoundTree) × ((both_merged (Some l) o).0 ≡ Some u)
some_left l None = (l, refl)
some_left l (Some r) = ((merged_with l r).0, refl)

pub lefts_of_tree : (x y r : BoundTree) → both_merged (Some (and_of x y)) (Some r) ≡ lefts_after (both_merged (Some x) (Some r)) (Some y)
lefts_of_tree x y (node t (binary and_also) (bound a (bound b no_bound))) =
    let first = lefts_of_tree x y a in
    let x1 = (merged_with x a).0 in
    let o1 = (merged_with x a).1 in
    let y1 = some_left y o1 in
    let second = lefts_of_tree x1 y1.0 b in
    let whole : both_merged (Some (and_of x y)) (Some (and_of a b)) ≡ rights_after (both_merged (Some (and_of x y)) (Some a)) (Some b) = rights_in_order (Some (and_of x y)) (Some a) (Some b) in
    let begun : both_merged (Some (and_of x y)) (Some a) ≡ (Some (and_of x1 y1.0), (both_merged (Some y) o1).1) = first ∙ ap (λ z. (conjoined (Some x1) z, (both_merged (Some y) o1).1)) y1.1 in
    let later = rights_in_order (Some y) o1 (merged_with x1 b).1 in
    let same : both_merged (Some y) o1 ≡ (Some y1.0, (both_merged (Some y) o1).1) = ap (λ z. (z, (both_merged (Some y) o1).1)) y1.1 in
    whole ∙ (ap (λ z. rights_after z (Some b)) begun ∙ (ap (λ (z : Both). (z.0, conjoined (both_merged (Some y) o1).1 z.1)) second
    ∙ sym (ap (λ (z : Both). (conjoined (Some (merged_with x1 b).0) z.0, z.1)) (later ∙ ap (λ z. rights_after z (merged_with x1 b).1) same))))
lefts_of_tree x y r = lefts_single x y r refl

pub lefts_in_order : (x y o : Option BoundTree) → both_merged (conjoined x y) o ≡ lefts_after (both_merged x o) y
lefts_in_order None y o = refl
lefts_in_order (Some x) None o = let p = some_left x o in ap (λ z. (z, (both_merged (Some x) o).1)) (p.1 ∙ sym (ap (λ z. conjoined z None) p.1))
lefts_in_order (Some x) (Some y) None = refl
lefts_in_order (Some x) (Some y) (Some r) = lefts_of_tree x y r

-- ---- what is merged in the order of the right conjuncts is merged pair by pair

none_changed : (l r : BoundTree) (o v : Option BoundTree) → changed_of l r o v ≡ None → (o ≡ None) × (v ≡ None)
none_changed l r (Some u) v e = cc
none_changed l r None (Some u) e = cc
none_changed l r None None e = (refl, refl)

none_with : (d l : BoundTree) → with_merged d l ≡ None → NoneMergeable (conjuncts l) (d ∷ [])
none_with d (node t (binary and_also) (bound l (bound r no_bound))) e =
    let parts = none_changed l r (with_merged d l) (with_merged d r) e in
    left_none {x = l} {y = r} (t, refl) (none_with d l parts.0) (none_with d r parts.1)
none_with d l e = left_none_alone {l = l} refl (between_none l d e)

some_with : (d l u : BoundTree) → with_merged d l ≡ Some u → LeftMerged d l u
some_with d (node t (binary and_also) (bound l (bound r no_bound))) u e = go (with_merged d l) (with_merged d r) (none_with d l) (some_with d l) (some_with d r) e
  where
    go : (o v : Option BoundTree) → (o ≡ None → NoneMergeable (conjuncts l) (d ∷ [])) → ((w : BoundTree) → o ≡ Some w → LeftMerged d l w) → ((w : BoundTree) → v ≡ Some w → LeftMerged d r w) → changed_of l r o v ≡ Some u → LeftMerged d (and_node t l r) u
    go (Some w) v none left right h = left_in_first {x = l} {y = r} (t, refl) (left w refl) (let i : Some (and_of w r) ≡ Some u = h in cc)
    go None (Some w) none left right h = left_in_second {x = l} {y = r} (t, refl) (none refl) (right w refl) (let i : Some (and_of l w) ≡ Some u = h in cc)
    go None None none left right h = cc
some_with d l u e = left_alone {l = l} refl (between_merge l d u e)

-- pairs are merged, or there are none
pub data Takes (l r : BoundTree) : BoundTree → Option BoundTree → Type 0 where
  takes_none : NoneMergeable (conjuncts l) (conjuncts r) → Takes l r l (Some r)
  takes_some : {u : BoundTree} {rest : Option BoundTree} → PairsMerged l r u rest → Takes l r u rest

takes_both : {l x y r u w : BoundTree} {rx ry : Option BoundTree} → IsBinary and_also x y r → r ≡ and_of x y → Takes l x u rx → Takes u y w ry → Takes l r w (conjoined rx ry)
takes_both {l = l} {r = r} b e (takes_none f) (takes_none g) = subst (λ z. Takes l r l (Some z)) e (takes_none (right_none l b f g))
takes_both b e (takes_none f) (takes_some p) = takes_some (second_alone b f p)
takes_both b e (takes_some p) (takes_none g) = takes_some (first_and_second b p (without_pairs refl g))
takes_both b e (takes_some p) (takes_some q) = takes_some (first_and_second b p (with_pairs q))

takes_single : (l d : BoundTree) → is_and d ≡ false → (o : Option BoundTree) → with_merged d l ≡ o → Takes l d (after_single l d o).0 (after_single l d o).1
takes_single l d e (Some u) f = takes_some (pairs_single (right_single e (some_with d l u f)))
takes_single l d e None f = takes_none (right_none_single l d e (none_with d l f))

pub takes_merged : (l r : BoundTree) → WellTyped r → Takes l r (merged_with l r).0 (merged_with l r).1
takes_merged l (node t (binary and_also) (bound x (bound y no_bound))) w =
    let p = and_parts_of t x y w in
    takes_both {x = x} {y = y} (t, refl) (typed_and t x y w) (takes_merged l x p.left) (takes_merged (merged_with l x).0 y p.right)
takes_merged l r w = takes_single l r refl (with_merged r l) refl
