-- What is left of a tree whose conjuncts are merged in their places.
use Rattle.std.proofs.Common.{◌≡◌, ◌⊎◌, inl, inr, ℕ, zero, suc, List, [], ◌∷◌, ◌++◌, length, refl, sym, subst, ap, ◌∙◌, true, false, ◌||◌, arith, append_assoc, length-append}
use Rattle.std.specs.Prelude.{Option, Some, None, IsFalse, option_map, option_to_list}
use Rattle.std.specs.declared.alloc.Global.{Global}
use Rattle.std.specs.declared.boxed.Box.{Box}
use Rattle.vx_value.specs.Types.{LogicalType}
use Rattle.vx_fn.specs.Functions.{and_also}
use Rattle.vx_fn.specs.Views.{is_strict}
use Rattle.vx_dtype.specs.Lists.{IsIn}
use Rattle.vx_dtype.proofs.Lists.{in_left, in_right}
use Rattle.vx_tree.specs.Trees.{BoundTree}
use Rattle.vx_tree.specs.Views.{bound_of}
use Rattle.vx_tree.specs.declared.bound.BoundExpression.{BoundExpression}
use Rattle.vx_rewrite_fusing.specs.declared.places.Link.{Link}
use Rattle.vx_rewrite_fusing.specs.declared.places.Place.{Place}
use Rattle.vx_rewrite_fusing.specs.declared.places.Place.TheVariants.{Other, Open, Merged, Gone}
use Rattle.vx_rewrite_fusing.specs.declared.ranges.RangeComparison.{RangeComparison}
use Rattle.vx_rewrite_fusing.specs.declared.ranges.Side.{Side}
use Rattle.vx_rewrite_fusing.specs.declared.ranges.Side.TheVariants.{Below, Above}
use Rattle.vx_rewrite_fusing.specs.Conjuncts.{and_node, and_of, is_and, conjuncts, range_of, tree_in, conjuncts_left, conjoined, MergeTo, Fused, IsBinary}
use Rattle.vx_rewrite_fusing.specs.Finding.{range_seen}
use Rattle.vx_rewrite_fusing.specs.Sides.{after_single, both_merged, with_merged}
use Rattle.vx_rewrite_fusing.specs.Places.{opposite, turned, Bounded, bounded_at, became_place, has_merged, Has, NoPair, Holds, no_range, open_range, merged_range, gone_range, both, IsPlaceOf, IsNoted}
use Rattle.vx_rewrite_fusing.proofs.Keyed.{between_plain, keyed, merge_between, no_between, seen_key, single_merged, with_single}
use Rattle.vx_rewrite_fusing.proofs.Merges.{alone, either, in_own, none_of_fused}
use Rattle.vx_rewrite_fusing.proofs.Ordered.{Both, rights_after, rights_in_order}
use Rattle.vx_rewrite_fusing.proofs.Pairs.{opposite_pair, opposite_twice}
use Rattle.vx_rewrite_fusing.proofs.Pairing.{conjuncts_left-conjoined}

-- ---- a list at a place

-- the place stands in the one list or in the other
pub data Parts (rs ls back : List Place) (p : Place) (front : List Place) : Type 0 where
  in_rs : (rest : List Place) → rs ≡ back ++ p ∷ rest → front ≡ rest ++ ls → Parts rs ls back p front
  in_ls : (rest : List Place) → back ≡ rs ++ rest → ls ≡ rest ++ p ∷ front → Parts rs ls back p front

more_parts : (x y : Place) (rs ls back : List Place) (p : Place) (front : List Place) → x ≡ y → Parts rs ls back p front → Parts (x ∷ rs) ls (y ∷ back) p front
more_parts x y rs ls back p front e (in_rs rest f g) = in_rs rest (rw (e, f) refl) g
more_parts x y rs ls back p front e (in_ls rest f g) = in_ls rest (rw (e, f) refl) g

pub parts_of : (rs ls back : List Place) (p : Place) (front : List Place) → rs ++ ls ≡ back ++ p ∷ front → Parts rs ls back p front
parts_of [] ls back p front e = in_ls back refl e
parts_of (x ∷ rs) ls [] p front e = in_rs rs (cc) (cc)
parts_of (x ∷ rs) ls (y ∷ back) p front e = more_parts x y rs ls back p front (cc) (parts_of rs ls back p front (cc))

only : (p q : Place) (back front : List Place) → p ∷ [] ≡ back ++ q ∷ front → (p ≡ q) × (back ≡ []) × (front ≡ [])
only p q [] front e = (cc, refl, cc)
only p q (x ∷ []) front e = cc
only p q (x ∷ y ∷ back) front e = cc

-- ---- what some place bounds

pub has_first : (ps qs : List Place) (k : Bounded) → Has ps k → Has (ps ++ qs) k
has_first [] qs k h = elim h [ ]
has_first (p ∷ ps) qs k (inl e) = inl e
has_first (p ∷ ps) qs k (inr h) = inr (has_first ps qs k h)

pub has_second : (ps qs : List Place) (k : Bounded) → Has qs k → Has (ps ++ qs) k
has_second [] qs k h = h
has_second (p ∷ ps) qs k h = inr (has_second ps qs k h)

pub has_either : (ps qs : List Place) (k : Bounded) → Has (ps ++ qs) k → Has ps k ⊎ Has qs k
has_either [] qs k h = inr h
has_either (p ∷ ps) qs k (inl e) = inl (inl e)
has_either (p ∷ ps) qs k (inr h) = either (λ x. inl (inr x)) (λ x. inr x) (has_either ps qs k h)

pub has_at : (ps : List Place) (i : ℕ) (k : Bounded) → bounded_at ps i ≡ Some k → Has ps k
has_at [] i k e = cc
has_at (p ∷ ps) zero k e = inl e
has_at (p ∷ ps) (suc i) k e = inr (has_at ps i k e)

pub place_of : (ps : List Place) (k : Bounded) → Has ps k → (i : ℕ) × (bounded_at ps i ≡ Some k)
place_of [] k h = elim h [ ]
place_of (p ∷ ps) k (inl e) = (zero, e)
place_of (p ∷ ps) k (inr h) = let r = place_of ps k h in (suc r.0, r.1)

pub turned_back : (k : Bounded) → turned (turned k) ≡ k
turned_back (Below, b) = refl
turned_back (Above, b) = refl

-- two lists that bound nothing from opposite sides, one behind the other
pub no_pair_joined : (rs ls : List Place) → NoPair rs rs → NoPair ls (rs ++ ls) → NoPair (rs ++ ls) (rs ++ ls)
no_pair_joined rs ls f g k h i = either (λ r. either (λ s. f k r s) (λ s. g (turned k) s (has_first rs ls (turned (turned k)) (subst (Has rs) (sym (turned_back k)) r))) (has_either rs ls (turned k) i)) (λ s. g k s i) (has_either rs ls k h)

-- no pair between two lists, and none in the second
pub no_pair_across : (rs ls : List Place) → NoPair rs ls → NoPair ls ls → NoPair ls (rs ++ ls)
no_pair_across rs ls f g k h i = either (λ r. f (turned k) r (subst (Has ls) (sym (turned_back k)) h)) (λ s. g k h s) (has_either rs ls (turned k) i)

-- ---- whether something is merged

pub merged_append : (ys xs : List Place) → has_merged (ys ++ xs) ≡ (has_merged ys || has_merged xs)
merged_append [] xs = refl
merged_append (Merged b ∷ ys) xs = refl
merged_append (Gone ∷ ys) xs = refl
merged_append (Other ∷ ys) xs = merged_append ys xs
merged_append (Open r next ∷ ys) xs = merged_append ys xs

-- ---- nothing is merged

-- the tree with its first conjunct that is mergeable with d merged with it, if there is a tree
abbrev pub with_merged_in : BoundTree → Option BoundTree → Option BoundTree
with_merged_in d None = None
with_merged_in d (Some l) = with_merged d l

none_in_both : (d : BoundTree) (l r : Option BoundTree) → with_merged_in d l ≡ None → with_merged_in d r ≡ None → with_merged_in d (conjoined l r) ≡ None
none_in_both d None r e f = f
none_in_both d (Some l) None e f = e
none_in_both d (Some l) (Some r) e f = rw (e, f) refl

-- no place is one of the item, and no conjunct is mergeable
pub none_held : {l : BoundTree} {o : Option BoundTree} {ps : List Place} (d : BoundTree) → Holds l ps o → ((k : Bounded) → keyed (range_of d) ≡ Some k → Has ps (turned k) → ⊥) → with_merged_in d o ≡ None
none_held d (no_range {c = c} a n) f = with_single d c a ∙ no_between (range_of c) (range_of d) (λ k e g. let h = ap keyed n in cc)
none_held d (open_range {c = c} {r = r} a n) f =
    let own : keyed (range_of c) ≡ Some (r.side, bound_of r.item.now) = ap keyed n ∙ ap Some (seen_key r.side _ _ _) in
    with_single d c a ∙ no_between (range_of c) (range_of d) (λ k e g. f k g (inl (sym own ∙ e)))
none_held d (merged_range {b = b} a m n) f = with_single d (tree_in b) m ∙ no_between (range_of (tree_in b)) (range_of d) (λ k e g. let h = ap keyed n in cc)
none_held d (gone_range a) f = refl
none_held d (both {l' = l'} {r' = r'} {ls = ls} {rs = rs} same h g) f =
    none_in_both d l' r' (none_held d h (λ k e i. f k e (has_second rs ls (turned k) i))) (none_held d g (λ k e i. f k e (has_first rs ls (turned k) i)))

pub whole_single : (c d : BoundTree) → is_and d ≡ false → with_merged d c ≡ None → both_merged (Some c) (Some d) ≡ (Some c, Some d)
whole_single c d e f = ap (λ z. (Some z.0, z.1)) (single_merged c d e ∙ ap (after_single c d) f)

-- the same of a left conjunct and a right tree
pub whole_held : {r : BoundTree} {o : Option BoundTree} {ps : List Place} (c : BoundTree) → is_and c ≡ false → Holds r ps o → ((k : Bounded) → keyed (range_of c) ≡ Some k → Has ps (turned k) → ⊥) → both_merged (Some c) o ≡ (Some c, o)
whole_held c x (no_range {c = d} a n) f = whole_single c d a (with_single d c x ∙ no_between (range_of c) (range_of d) (λ k e g. let h = ap keyed n in cc))
whole_held c x (open_range {c = d} {r = r} a n) f =
    let own : keyed (range_of d) ≡ Some (r.side, bound_of r.item.now) = ap keyed n ∙ ap Some (seen_key r.side _ _ _) in
    whole_single c d a (with_single d c x ∙ no_between (range_of c) (range_of d) (λ k e g. f (turned k) e (inl (sym own ∙ (g ∙ ap Some (sym (turned_back k)))))))
whole_held c x (merged_range {b = b} a m n) f = whole_single c (tree_in b) m (with_single (tree_in b) c x ∙ no_between (range_of c) (range_of (tree_in b)) (λ k e g. let h = ap keyed n in cc))
whole_held c x (gone_range a) f = refl
whole_held c x (both {l' = l'} {r' = r'} {ls = ls} {rs = rs} same h g) f =
    let one = whole_held c x h (λ k e i. f k e (has_second rs ls (turned k) i)) in
    let two = whole_held c x g (λ k e i. f k e (has_first rs ls (turned k) i)) in
    rights_in_order (Some c) l' r' ∙ (ap (λ z. rights_after z r') one ∙ ap (λ (z : Both). (z.0, conjoined l' z.1)) two)

-- ---- a range at a place is a conjunct

abbrev pub RangeIn : Bounded → Option BoundTree → Type 0
RangeIn k o = (c : BoundTree) × (r : RangeComparison) × IsIn c (conjuncts_left o) × (range_of c ≡ Some (range_seen r)) × ((r.side, bound_of r.item.now) ≡ k)

range_joined : (k : Bounded) (l r : Option BoundTree) → RangeIn k l ⊎ RangeIn k r → RangeIn k (conjoined l r)
range_joined k l r (inl h) = (h.0, h.1, subst (IsIn h.0) (sym (conjuncts_left-conjoined l r)) (in_left h.0 (conjuncts_left l) (conjuncts_left r) h.2), h.3, h.4)
range_joined k l r (inr h) = (h.0, h.1, subst (IsIn h.0) (sym (conjuncts_left-conjoined l r)) (in_right h.0 (conjuncts_left l) (conjuncts_left r) h.2), h.3, h.4)

pub range_held : {l : BoundTree} {o : Option BoundTree} {ps : List Place} (k : Bounded) → Holds l ps o → Has ps k → RangeIn k o
range_held k (no_range a n) (inl e) = cc
range_held k (no_range a n) (inr h) = absurd h
range_held k (open_range {c = c} {r = r} a n) (inl e) = (c, r, in_own c a, n, cc)
range_held k (open_range a n) (inr h) = absurd h
range_held k (merged_range a m n) (inl e) = cc
range_held k (merged_range a m n) (inr h) = absurd h
range_held k (gone_range a) (inl e) = cc
range_held k (gone_range a) (inr h) = absurd h
range_held k (both {l' = l'} {r' = r'} {ls = ls} {rs = rs} same h g) i = range_joined k l' r' (either (λ x. inr (range_held k g x)) (λ x. inl (range_held k h x)) (has_either rs ls k i))

-- a fused tree bounds nothing from opposite sides
pub fused_no_pair : {l : BoundTree} {ps : List Place} → Holds l ps (Some l) → Fused l → NoPair ps ps
fused_no_pair {l = l} h f k i j =
    let c = range_held k h i in
    let d = range_held (turned k) h j in
    let one = ap (λ (z : Bounded). z.0) c.4 in
    let two = ap (λ (z : Bounded). z.0) d.4 in
    let item = ap (λ (z : Bounded). z.1) c.4 ∙ sym (ap (λ (z : Bounded). z.1) d.4) in
    none_of_fused l f c.0 d.0 c.2 d.2 (opposite_pair c.1 d.1 c.0 d.0 c.3 d.3 (one ∙ (sym (opposite_twice k.0) ∙ ap opposite (sym two))) item)

-- ---- another place where a range stands

-- no place of the list is one of the other side of d's item
abbrev pub Apart : BoundTree → List Place → Type 0
Apart d ps = (k : Bounded) → keyed (range_of d) ≡ Some k → Has ps (turned k) → ⊥

-- what holds of the conjunct with that range, and of an And where it holds of one child, holds of the tree with q in the range's place
module _ (d : BoundTree) (r : RangeComparison) (next : Link) (q : Place) (P : BoundTree → Option BoundTree → List Place → Type 0)
    (single : (c : BoundTree) → IsFalse (is_and c) → range_of c ≡ Some (range_seen r) → P c (Some c) (q ∷ []))
    (second : (t : LogicalType) (x y : BoundTree) (u v : Option BoundTree) (xs ys : List Place) → and_node t x y ≡ and_of x y → Holds x xs u → Apart d xs → P y v ys → P (and_node t x y) (conjoined u v) (ys ++ xs))
    (first : (t : LogicalType) (x y : BoundTree) (u v : Option BoundTree) (xs ys : List Place) → and_node t x y ≡ and_of x y → Holds y ys v → P x u xs → P (and_node t x y) (conjoined u v) (ys ++ xs)) where
  in_both : (t : LogicalType) (x y : BoundTree) (u v : Option BoundTree) (xs ys back front : List Place) → and_node t x y ≡ and_of x y → Holds x xs u → Holds y ys v → Apart d front
      → ((back front : List Place) → xs ≡ back ++ Open r next ∷ front → Apart d front → P x u (back ++ q ∷ front))
      → ((back front : List Place) → ys ≡ back ++ Open r next ∷ front → Apart d front → P y v (back ++ q ∷ front))
      → Parts ys xs back (Open r next) front → P (and_node t x y) (conjoined u v) (back ++ q ∷ front)
  in_both t x y u v xs ys back front same h g free on_first on_second (in_rs rest e f) =
      let none : Apart d (rest ++ xs) = subst (Apart d) f free in
      let w = on_second back rest e (λ k n i. none k n (has_first rest xs (turned k) i)) in
      subst (P (and_node t x y) (conjoined u v)) (append_assoc back (q ∷ rest) xs ∙ ap (λ z. back ++ q ∷ z) (sym f)) (second t x y u v xs (back ++ q ∷ rest) same h (λ k n i. none k n (has_second rest xs (turned k) i)) w)
  in_both t x y u v xs ys back front same h g free on_first on_second (in_ls rest e f) =
      subst (P (and_node t x y) (conjoined u v)) (sym (append_assoc ys rest (q ∷ front)) ∙ ap (λ z. z ++ q ∷ front) (sym e)) (first t x y u v (rest ++ q ∷ front) ys same g (on_first rest front f free))

  with_place : {l : BoundTree} {o : Option BoundTree} {ps : List Place} → Holds l ps o → (back front : List Place) → ps ≡ back ++ Open r next ∷ front → Apart d front → P l o (back ++ q ∷ front)
  with_place (no_range a n) back front e free = let h = only Other (Open r next) back front e in let g : Other ≡ Open r next = h.0 in cc
  with_place (open_range {c = c} {r = p} {next = o} a n) back front e free =
      let h = only (Open p o) (Open r next) back front e in
      let g : Open p o ≡ Open r next = h.0 in
      let s : p ≡ r = cc in
      rw (h.1, h.2) (single c a (n ∙ ap (λ z. Some (range_seen z)) s))
  with_place (merged_range {b = w} a m n) back front e free = let h = only (Merged w) (Open r next) back front e in let g : Merged w ≡ Open r next = h.0 in cc
  with_place (gone_range a) back front e free = let h = only Gone (Open r next) back front e in let g : Gone ≡ Open r next = h.0 in cc
  with_place (both {t = t} {l = x} {r = y} {l' = u} {r' = v} {ls = xs} {rs = ys} same h g) back front e free =
      in_both t x y u v xs ys back front same h g free (with_place h) (with_place g) (parts_of ys xs back (Open r next) front e)

-- ---- a left range is merged

-- the first conjunct that is mergeable with d is merged with it, and the tree with it is held
pub record Becomes (d l : BoundTree) (o : Option BoundTree) (ps : List Place) : Type 0 where
  pub tree : BoundTree
  pub merged : with_merged_in d o ≡ Some tree
  pub holds : Holds l ps (Some tree)

becomes_alone : (d c : BoundTree) (b : Box BoundExpression Global) → IsFalse (is_and c) → MergeTo c d (tree_in b) → Becomes d c (Some c) (Merged b ∷ [])
becomes_alone d c b a k = let plain = between_plain k in record { tree = tree_in b; merged = with_single d c a ∙ merge_between k; holds = merged_range a plain.0 plain.1 }

-- in the second of two trees
becomes_second : (d : BoundTree) (t : LogicalType) (x y : BoundTree) (u v : Option BoundTree) (xs ys : List Place) → and_node t x y ≡ and_of x y → Holds x xs u → Apart d xs → Becomes d y v ys → Becomes d (and_node t x y) (conjoined u v) (ys ++ xs)
becomes_second d t x y None v xs ys same h free w = record { tree = w.tree; merged = w.merged; holds = both {t = t} same h w.holds }
becomes_second d t x y (Some u) None xs ys same h free w = let e : ◌≡◌ {A = Option BoundTree} None (Some w.tree) = w.merged in cc
becomes_second d t x y (Some u) (Some v) xs ys same h free w = record { tree = and_of u w.tree; merged = rw (none_held d h free, w.merged) refl; holds = both {t = t} same h w.holds }

-- in the first
becomes_first : (d : BoundTree) (t : LogicalType) (x y : BoundTree) (u v : Option BoundTree) (xs ys : List Place) → and_node t x y ≡ and_of x y → Holds y ys v → Becomes d x u xs → Becomes d (and_node t x y) (conjoined u v) (ys ++ xs)
becomes_first d t x y None v xs ys same g w = let e : ◌≡◌ {A = Option BoundTree} None (Some w.tree) = w.merged in cc
becomes_first d t x y (Some u) None xs ys same g w = record { tree = w.tree; merged = w.merged; holds = both {t = t} same w.holds g }
becomes_first d t x y (Some u) (Some v) xs ys same g w = record { tree = and_of w.tree v; merged = rw w.merged refl; holds = both {t = t} same w.holds g }

pub holds_merged : {l : BoundTree} {o : Option BoundTree} {ps : List Place} (d : BoundTree) (r : RangeComparison) (next : Link) (b : Box BoundExpression Global) → Holds l ps o
    → ((c : BoundTree) → range_of c ≡ Some (range_seen r) → MergeTo c d (tree_in b))
    → (back front : List Place) → ps ≡ back ++ Open r next ∷ front → Apart d front → Becomes d l o (back ++ Merged b ∷ front)
holds_merged d r next b h merges = with_place d r next (Merged b) (Becomes d) (λ c a n. becomes_alone d c b a (merges c n)) (becomes_second d) (becomes_first d) h

-- ---- a right range is gone

-- the left conjunct c is m, which it is with its first partner, and the tree without that one is held
pub record Goes (c m r : BoundTree) (o : Option BoundTree) (ps : List Place) : Type 0 where
  pub rest : Option BoundTree
  pub merged : both_merged (Some c) o ≡ (Some m, rest)
  pub holds : Holds r ps rest
  pub plain : (is_and m ≡ false) × (range_of m ≡ None)

goes_alone : (c m d : BoundTree) → is_and c ≡ false → IsFalse (is_and d) → MergeTo c d m → Goes c m d (Some d) (Gone ∷ [])
goes_alone c m d x a k = record {
  rest = None;
  merged = ap (λ z. (Some z.0, z.1)) (single_merged c d a ∙ ap (after_single c d) (with_single d c x ∙ merge_between k));
  holds = gone_range a;
  plain = between_plain k;
}

-- in the second of two trees
goes_second : (c m : BoundTree) → is_and c ≡ false → (t : LogicalType) (x y : BoundTree) (u v : Option BoundTree) (xs ys : List Place) → and_node t x y ≡ and_of x y → Holds x xs u → Apart c xs → Goes c m y v ys → Goes c m (and_node t x y) (conjoined u v) (ys ++ xs)
goes_second c m p t x y u v xs ys same h free w = record {
  rest = conjoined u w.rest;
  merged = rights_in_order (Some c) u v ∙ (ap (λ z. rights_after z v) (whole_held c p h free) ∙ ap (λ (z : Both). (z.0, conjoined u z.1)) w.merged);
  holds = both {t = t} same h w.holds;
  plain = w.plain;
}

-- in the first
goes_first : (c m : BoundTree) (t : LogicalType) (x y : BoundTree) (u v : Option BoundTree) (xs ys : List Place) → and_node t x y ≡ and_of x y → Holds y ys v → Goes c m x u xs → Goes c m (and_node t x y) (conjoined u v) (ys ++ xs)
goes_first c m t x y u v xs ys same g w = record {
  rest = conjoined w.rest v;
  merged = rights_in_order (Some c) u v ∙ (ap (λ z. rights_after z v) w.merged ∙ ap (λ (z : Both). (z.0, conjoined w.rest z.1)) (whole_held m w.plain.0 g (λ k e i. let n = ap keyed w.plain.1 in cc)));
  holds = both {t = t} same w.holds g;
  plain = w.plain;
}

pub holds_gone : {z : BoundTree} {o : Option BoundTree} {ps : List Place} (c m : BoundTree) (r : RangeComparison) (next : Link) → is_and c ≡ false → Holds z ps o
    → ((d : BoundTree) → range_of d ≡ Some (range_seen r) → MergeTo c d m)
    → (back front : List Place) → ps ≡ back ++ Open r next ∷ front → Apart c front → Goes c m z o (back ++ Gone ∷ front)
holds_gone c m r next p h merges = with_place c r next Gone (Goes c m) (λ d a n. goes_alone c m d p a (merges d n)) (goes_second c m p) (goes_first c m) h

-- ---- nothing is merged yet

pub noted_single : (l : BoundTree) (o : Option RangeComparison) (p : Place) → IsFalse (is_and l) → option_map range_seen o ≡ range_of l → IsPlaceOf o p → IsNoted l (p ∷ [])
noted_single l None p a e f = subst (λ z. IsNoted l (z ∷ [])) (sym f) (no_range a (sym e), refl)
noted_single l (Some r) p a e f = subst (λ z. IsNoted l (z ∷ [])) (sym f.1) (open_range {r = r} {next = f.0} a (sym e), refl)

-- a single conjunct has one place
pub record OnePlace (l : BoundTree) (ps : List Place) (o : Option BoundTree) : Type 0 where
  pub place : Place
  pub alone : ps ≡ place ∷ []
  pub merged : (b : Option (Box BoundExpression Global)) → place ≡ became_place b → o ≡ option_map tree_in b
  pub stays : has_merged (place ∷ []) ≡ false → o ≡ Some l

pub one_place : {l : BoundTree} {o : Option BoundTree} {ps : List Place} → Holds l ps o → IsFalse (is_and l) → OnePlace l ps o
one_place (no_range {c = c} x n) a = record { place = Other; alone = refl; merged = λ b e. not_other b e; stays = λ e. refl }
  where
    not_other : {A : Type 0} (b : Option (Box BoundExpression Global)) → Other ≡ became_place b → A
    not_other None e = cc
    not_other (Some b) e = cc
one_place (open_range {c = c} {r = r} {next = next} x n) a = record { place = Open r next; alone = refl; merged = λ b e. not_open b e; stays = λ e. refl }
  where
    not_open : {A : Type 0} (b : Option (Box BoundExpression Global)) → Open r next ≡ became_place b → A
    not_open None e = cc
    not_open (Some b) e = cc
one_place (merged_range {c = c} {b = w} x m n) a = record { place = Merged w; alone = refl; merged = λ b e. same b e; stays = λ e. cc }
  where
    same : (b : Option (Box BoundExpression Global)) → Merged w ≡ became_place b → Some (tree_in w) ≡ option_map tree_in b
    same None e = cc
    same (Some b) e = let s : w ≡ b = cc in ap (λ z. Some (tree_in z)) s
one_place (gone_range {c = c} x) a = record { place = Gone; alone = refl; merged = λ b e. same b e; stays = λ e. cc }
  where
    same : (b : Option (Box BoundExpression Global)) → Gone ≡ became_place b → None ≡ option_map tree_in b
    same None e = refl
    same (Some b) e = cc
one_place (both same h g) a = cc

-- the places of an And are those of its children
pub record BothPlaces (x y l : BoundTree) (ps : List Place) (o : Option BoundTree) : Type 0 where
  pub lefts : List Place
  pub rights : List Place
  pub left : Option BoundTree
  pub right : Option BoundTree
  pub parts : ps ≡ rights ++ lefts
  pub on_left : Holds x lefts left
  pub on_right : Holds y rights right
  pub whole : l ≡ and_of x y
  pub tree : o ≡ conjoined left right

pub both_places : {x y l : BoundTree} {o : Option BoundTree} {ps : List Place} → IsBinary and_also x y l → Holds l ps o → BothPlaces x y l ps o
both_places b (no_range {c = c} a n) = let e : is_and c ≡ true = rw b.1 refl in cc
both_places b (open_range {c = c} a n) = let e : is_and c ≡ true = rw b.1 refl in cc
both_places b (merged_range {c = c} a m n) = let e : is_and c ≡ true = rw b.1 refl in cc
both_places b (gone_range {c = c} a) = let e : is_and c ≡ true = rw b.1 refl in cc
both_places {x = x} {y = y} b (both {t = t} {l = l} {r = r} {l' = l'} {r' = r'} {ls = ls} {rs = rs} typed h g) =
    let same : and_node t l r ≡ and_node b.0 x y = b.1 in
    let left : l ≡ x = cc in
    let right : r ≡ y = cc in
    record {
      lefts = ls;
      rights = rs;
      left = l';
      right = r';
      parts = refl;
      on_left = subst (λ z. Holds z ls l') left h;
      on_right = subst (λ z. Holds z rs r') right g;
      whole = typed ∙ rw (left, right) refl;
      tree = refl;
    }

-- each conjunct has a place
pub holds_count : {l : BoundTree} {o : Option BoundTree} {ps : List Place} → Holds l ps o → length ps ≡ length (conjuncts l)
holds_count (no_range {c = c} a n) = sym (ap length (alone c a))
holds_count (open_range {c = c} a n) = sym (ap length (alone c a))
holds_count (merged_range {c = c} a m n) = sym (ap length (alone c a))
holds_count (gone_range {c = c} a) = sym (ap length (alone c a))
holds_count (both {l = l} {r = r} {ls = ls} {rs = rs} same h g) = omega (arith, length-append rs ls, length-append (conjuncts l) (conjuncts r), holds_count h, holds_count g)

-- the last place is taken
ends : (xs ys : List Place) (p q : Place) → xs ++ p ∷ [] ≡ ys ++ q ∷ [] → (xs ≡ ys) × (p ≡ q)
ends [] [] p q e = (refl, cc)
ends [] (y ∷ []) p q e = cc
ends [] (y ∷ z ∷ ys) p q e = cc
ends (x ∷ []) [] p q e = cc
ends (x ∷ z ∷ xs) [] p q e = cc
ends (x ∷ xs) (y ∷ ys) p q e = let h = ends xs ys p q (cc) in let f : x ≡ y = cc in (rw (f, h.0) refl, h.1)

pub popped : (front : List Place) (p : Place) (before after : List Place) (o : Option Place) → before ≡ front ++ p ∷ [] → before ≡ after ++ option_to_list o → (o ≡ None → length before ≡ 0) → (after ≡ front) × (o ≡ Some p)
popped front p before after None e f g = let n : length before ≡ 0 = g refl in absurd (omega (arith, length-append front (p ∷ []), ap length e))
popped front p before after (Some q) e f g = let h = ends front after p q (sym e ∙ f) in (sym h.0, ap Some (sym h.1))
