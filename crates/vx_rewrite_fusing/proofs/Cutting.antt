-- A conjunct merged with its first partner, by the places of both.
use Rattle.std.proofs.Common.{◌≡◌, inl, inr, ℕ, zero, suc, ◌<◌, ◌≤◌, ◌+◌, ◌-◌, List, [], ◌∷◌, ◌++◌, length, set, refl, sym, subst, ap, ◌∙◌, arith, append_assoc, length-append, false}
use Rattle.std.specs.Prelude.{Option, Some, None, slice_get}
use Rattle.std.specs.declared.alloc.Global.{Global}
use Rattle.std.specs.declared.boxed.Box.{Box}
use Rattle.vx_tree.specs.Trees.{BoundTree}
use Rattle.vx_tree.specs.declared.bound.BoundExpression.{BoundExpression}
use Rattle.vx_rewrite_fusing.specs.declared.places.Link.{Link}
use Rattle.vx_rewrite_fusing.specs.declared.places.Place.{Place}
use Rattle.vx_rewrite_fusing.specs.declared.places.Place.TheVariants.{Other, Open, Merged, Gone}
use Rattle.vx_rewrite_fusing.specs.declared.ranges.RangeComparison.{RangeComparison}
use Rattle.vx_rewrite_fusing.specs.Conjuncts.{is_and, range_of, tree_in}
use Rattle.vx_rewrite_fusing.specs.Finding.{range_seen}
use Rattle.vx_rewrite_fusing.specs.Places.{turned, Bounded, bounded_at, bounded_by, Has, Holds, no_range, open_range, merged_range, gone_range, both, IsFirstOf, IsLast, IsPair, IsWithin, NoneFrom, PairIsMerged}
use Rattle.vx_rewrite_fusing.specs.Sides.{after_single, both_merged, HoldBoth, IsLeft, IsRight, MergedLeft, MergedRight}
use Rattle.vx_rewrite_fusing.proofs.Holding.{Apart, Parts, has_at, has_either, has_first, has_second, holds_gone, holds_merged, in_ls, in_rs, none_held, parts_of, place_of, turned_back, whole_held, whole_single, with_merged_in}
use Rattle.vx_rewrite_fusing.proofs.Keyed.{keyed, seen_key, single_keyed, single_merged}
use Rattle.vx_rewrite_fusing.proofs.Linking.{IsOpen, open_at}
use Rattle.vx_rewrite_fusing.proofs.Reading.{read_behind, read_inside}
use Rattle.vx_rewrite_fusing.proofs.Merges.{either}
use Rattle.vx_rewrite_fusing.proofs.Standing.{single_list}

-- ---- lists

place_past : (xs ys : List Place) (k : Bounded) → Has ys k → (i : ℕ) × (length xs ≤ i) × (bounded_at (xs ++ ys) i ≡ Some k)
place_past [] ys k h = let r = place_of ys k h in (r.0, omega arith, r.1)
place_past (x ∷ xs) ys k h = let r = place_past xs ys k h in (suc r.0, (let l : length xs ≤ r.0 = r.1 in omega arith), r.2)

has_behind : (xs ys : List Place) (i : ℕ) (k : Bounded) → length xs ≤ i → bounded_at (xs ++ ys) i ≡ Some k → Has ys k
has_behind [] ys i k l e = has_at ys i k e
has_behind (x ∷ xs) ys zero k l e = absurd (omega arith)
has_behind (x ∷ xs) ys (suc i) k l e = has_behind xs ys i k (omega arith) e

-- a place of the second of two lists
record IsBehind (xs ys : List Place) (i : ℕ) (q : Place) : Type 0 where
  back : List Place
  front : List Place
  parts : ys ≡ back ++ q ∷ front
  at : i ≡ length (xs ++ back)

within : (ys : List Place) (i : ℕ) (q : Place) → slice_get ys i ≡ Some q → IsBehind [] ys i q
within [] i q e = cc
within (y ∷ ys) zero q e = record { back = []; front = ys; parts = (let h : y ≡ q = cc in ap (λ z. z ∷ ys) h); at = refl }
within (y ∷ ys) (suc i) q e = let r = within ys i q e in record { back = y ∷ r.back; front = r.front; parts = ap (λ z. y ∷ z) r.parts; at = ap suc r.at }

behind : (xs ys : List Place) (i : ℕ) (q : Place) → length xs ≤ i → slice_get (xs ++ ys) i ≡ Some q → IsBehind xs ys i q
behind [] ys i q l e = within ys i q e
behind (x ∷ xs) ys zero q l e = absurd (omega arith)
behind (x ∷ xs) ys (suc i) q l e = let r = behind xs ys i q (omega arith) e in record { back = r.back; front = r.front; parts = r.parts; at = ap suc r.at }

slice_cut : (xs : List Place) (p : Place) (ys : List Place) → slice_get (xs ++ p ∷ ys) (length xs) ≡ Some p
slice_cut [] p ys = refl
slice_cut (x ∷ xs) p ys = slice_cut xs p ys

set_cut : (xs : List Place) (p q : Place) (ys : List Place) → set (xs ++ p ∷ ys) (length xs) q ≡ xs ++ q ∷ ys
set_cut [] p q ys = refl
set_cut (x ∷ xs) p q ys = ap (λ v. x ∷ v) (set_cut xs p q ys)

-- a list of two parts
module _ {all : List Place} (xs ys : List Place) (parts : all ≡ xs ++ ys) where
  place_in : (k : Bounded) → Has ys k → (i : ℕ) × (length xs ≤ i) × (i < length all) × (bounded_at all i ≡ Some k)
  place_in k h =
      let r = place_past xs ys k h in
      let there : bounded_at all r.0 ≡ Some k = subst (λ z. bounded_at z r.0 ≡ Some k) (sym parts) r.2 in
      (r.0, r.1, read_inside bounded_by all r.0 k there, there)

  has_in : (i : ℕ) (k : Bounded) → length xs ≤ i → bounded_at all i ≡ Some k → Has ys k
  has_in i k l e = has_behind xs ys i k l (subst (λ z. bounded_at z i ≡ Some k) parts e)

  none_apart : (start : ℕ) (p : Place) → start ≡ length xs → NoneFrom all start p → (k : Bounded) → bounded_by p ≡ Some k → Has ys (turned k) → ⊥
  none_apart start p begun none k e h = let place = place_in (turned k) h in none place.0 k e (let l : length xs ≤ place.0 = place.1 in omega arith) place.3

-- a list with a place between two parts
module _ {all : List Place} (xs ys : List Place) (p : Place) (i : ℕ) (parts : all ≡ xs ++ p ∷ ys) (at : i ≡ length xs) where
  more_parts : all ≡ (xs ++ p ∷ []) ++ ys
  more_parts = parts ∙ sym (append_assoc xs (p ∷ []) ys)

  slice_at : slice_get all i ≡ Some p
  slice_at = ap (λ z. slice_get z i) parts ∙ (ap (slice_get (xs ++ p ∷ ys)) at ∙ slice_cut xs p ys)

  set_at : (q : Place) → set all i q ≡ xs ++ q ∷ ys
  set_at q = ap (λ z. set z i q) parts ∙ (ap (λ j. set (xs ++ p ∷ ys) j q) at ∙ set_cut xs p q ys)

  -- it is the last one of its item if no place behind it is one
  last_at : (k : Bounded) → bounded_by p ≡ Some k → (Has ys k → ⊥) → IsLast all k (length all) (Some i)
  last_at k own none =
      let there : bounded_at all i ≡ Some k = ap (λ z. bounded_at z i) parts ∙ (ap (bounded_at (xs ++ p ∷ ys)) at ∙ (read_behind bounded_by xs p ys ∙ own)) in
      (read_inside bounded_by all i k there, there, λ j l m e. none (has_in (xs ++ p ∷ []) ys more_parts j k (omega (arith, at, length-append xs (p ∷ []))) e))

  none_behind : (k : Bounded) → IsLast all k (length all) (Some i) → Has ys k → ⊥
  none_behind k last h =
      let place = place_in (xs ++ p ∷ []) ys more_parts k h in
      last.2 place.0 (let l : length (xs ++ p ∷ []) ≤ place.0 = place.1 in omega (arith, at, length-append xs (p ∷ []))) place.2 place.3

-- what another place in a list, which bounds nothing, leaves
none_of : (q : Place) → bounded_by q ≡ None → (k : Bounded) → Has (q ∷ []) k → ⊥
none_of q none k (inl e) = cc
none_of q none k (inr i) = absurd i

replaced_within : (back front : List Place) (p q : Place) → bounded_by q ≡ None → IsWithin (back ++ q ∷ front) (back ++ p ∷ front)
replaced_within back front p q none k h = either (has_first back (p ∷ front) k) behind_it (has_either back (q ∷ front) k h)
  where
    behind_it : Has (q ∷ front) k → Has (back ++ p ∷ front) k
    behind_it (inl e) = cc
    behind_it (inr i) = has_second back (p ∷ front) k (inr i)

-- ---- a single conjunct

-- the range of a conjunct that is still to be merged
record IsOwn (c : BoundTree) (p : Place) (o : Option BoundTree) (k : Bounded) : Type 0 where
  range : RangeComparison
  next : Link
  place : p ≡ Open range next
  whole : o ≡ Some c
  seen : range_of c ≡ Some (range_seen range)
  key : keyed (range_of c) ≡ Some k

own_range : {c : BoundTree} {p : Place} {o : Option BoundTree} (k : Bounded) → is_and c ≡ false → bounded_by p ≡ Some k → Holds c (p ∷ []) o → IsOwn c p o k
own_range {p = p} k a own held = go held refl a
  where
    go : {c : BoundTree} {ps : List Place} {o : Option BoundTree} → Holds c ps o → ps ≡ p ∷ [] → is_and c ≡ false → IsOwn c p o k
    go (no_range x n) e f = let same : Other ≡ p = cc in let g : bounded_by p ≡ None = ap bounded_by (sym same) in cc
    go (open_range {r = r} {next = next} x n) e f =
        let same : Open r next ≡ p = cc in
        record { range = r; next = next; place = sym same; whole = refl; seen = n; key = ap keyed n ∙ (ap Some (seen_key r.side _ _ _) ∙ (ap bounded_by same ∙ own)) }
    go (merged_range {b = b} x m n) e f = let same : Merged b ≡ p = cc in let g : bounded_by p ≡ None = ap bounded_by (sym same) in cc
    go (gone_range x) e f = let same : Gone ≡ p = cc in let g : bounded_by p ≡ None = ap bounded_by (sym same) in cc
    go (both same h g) e f = cc

apart_of : (c : BoundTree) {k : Bounded} (ps : List Place) → keyed (range_of c) ≡ Some k → (Has ps (turned k) → ⊥) → Apart c ps
apart_of c {k = k} ps key none j e h = none (subst (λ z. Has ps (turned z)) (let same : k ≡ j = cc in sym same) h)

-- ---- a right conjunct

none_merged : {c : BoundTree} {p : Place} {o : Option BoundTree} {l : BoundTree} {u : Option BoundTree} {ls : List Place} → Holds c (p ∷ []) o → Holds l ls u → ((k : Bounded) → bounded_by p ≡ Some k → Has ls (turned k) → ⊥) → both_merged u o ≡ (u, o)
none_merged {o = o} {u = None} h g none = refl
none_merged {o = None} {u = Some u} h g none = refl
none_merged {o = Some v} {u = Some u} h g none =
    let key = single_keyed h in
    whole_single u v key.no_and (none_held v g (λ k e i. none k (sym key.key ∙ e) i))

some_merged : (d tree : BoundTree) (u : Option BoundTree) → is_and d ≡ false → with_merged_in d u ≡ Some tree → both_merged u (Some d) ≡ (Some tree, None)
some_merged d tree None a e = cc
some_merged d tree (Some u) a e = ap (λ z. (Some z.0, z.1)) (single_merged u d a ∙ ap (after_single u d) e)

module _ {all back : List Place} {p : Place} {mid ls : List Place} {r : BoundTree} {at start : ℕ} (a : is_and r ≡ false) (s : IsRight all back (p ∷ []) mid ls r at start) where
  split : all ≡ (back ++ p ∷ mid) ++ ls
  split = s.parts ∙ sym (append_assoc back (p ∷ mid) ls)

  here : at - 1 ≡ length back
  here = omega (arith, s.at_back, length-append back (p ∷ []))

  right_there : slice_get all (at - 1) ≡ Some p
  right_there = slice_at back (mid ++ ls) p (at - 1) s.parts here

  pub right_alone : NoneFrom all start p → MergedRight all back (p ∷ []) mid ls r
  right_alone none = record {
    rights = p ∷ [];
    lefts = ls;
    parts = s.parts;
    long = refl;
    stays = λ f. (refl, refl);
    rights_within = λ k h. h;
    lefts_within = λ k h. h;
    apart = λ k h i. either (λ f. apart (turned k) f (subst (Has ls) (sym (turned_back k)) h)) (λ j. s.apart k h j) i;
    trees = λ l u o on_right on_left.
        let same = none_merged on_right on_left apart in
        subst (HoldBoth (p ∷ []) ls r l) (sym same) (on_right, on_left);
  }
    where
      apart : (k : Bounded) → bounded_by p ≡ Some k → Has ls (turned k) → ⊥
      apart = none_apart (back ++ p ∷ mid) ls split start p s.at_left none

  module _ (first : ℕ) (late : start ≤ first) (f : IsFirstOf all first p) where
    abbrev key : Bounded
    key = f.0

    begins : length (back ++ p ∷ mid) ≤ first
    begins = omega (arith, s.at_left)

    has_it : Has ls (turned key)
    has_it = has_in (back ++ p ∷ mid) ls split first (turned key) begins f.2.1

    pub right_pair : IsPair all first (at - 1)
    right_pair = (key, f.2, last_at back (mid ++ ls) p (at - 1) s.parts here key f.1 (λ h. s.apart (turned key) has_it (subst (Has (mid ++ ls)) (sym (turned_back key)) h)))

    pub right_merged : {new : List Place} → PairIsMerged all first (at - 1) new → MergedRight new back (p ∷ []) mid ls r
    right_merged {new = new} merged = record {
      rights = Gone ∷ [];
      lefts = lefts;
      parts = written;
      long = refl;
      stays = λ g. absurd (g (turned key) has_it (inl (f.1 ∙ ap Some (sym (turned_back key)))));
      rights_within = λ k h. absurd (none_of Gone refl k h);
      lefts_within = within_left;
      apart = λ k h i. either (λ g. absurd (none_of Gone refl (turned k) (inl g))) (λ j. s.apart k (within_left k h) (either (has_first mid ls (turned k)) (λ m. has_second mid ls (turned k) (within_left (turned k) m)) (has_either mid lefts (turned k) j))) i;
      trees = trees;
    }
      where
        met : IsOpen all first (turned key)
        met = open_at all first (turned key) f.2.1

        cut : IsBehind (back ++ p ∷ mid) ls first (Open met.range met.next)
        cut = behind (back ++ p ∷ mid) ls first (Open met.range met.next) begins (subst (λ z. slice_get z first ≡ Some (Open met.range met.next)) split met.there)

        b : Box BoundExpression Global
        b = merged.0

        lefts : List Place
        lefts = cut.back ++ Merged b ∷ cut.front

        within_left : IsWithin lefts ls
        within_left k h = subst (λ z. Has z k) (sym cut.parts) (replaced_within cut.back cut.front (Open met.range met.next) (Merged b) refl k h)

        in_two : all ≡ ((back ++ p ∷ mid) ++ cut.back) ++ Open met.range met.next ∷ cut.front
        in_two = split ∙ (ap (λ z. (back ++ p ∷ mid) ++ z) cut.parts ∙ sym (append_assoc (back ++ p ∷ mid) cut.back (Open met.range met.next ∷ cut.front)))

        once : set all first (Merged b) ≡ back ++ p ∷ (mid ++ lefts)
        once = set_at ((back ++ p ∷ mid) ++ cut.back) cut.front (Open met.range met.next) first in_two cut.at (Merged b) ∙ (append_assoc (back ++ p ∷ mid) cut.back (Merged b ∷ cut.front) ∙ append_assoc back (p ∷ mid) lefts)

        written : new ≡ back ++ (Gone ∷ [] ++ (mid ++ lefts))
        written = merged.1 ∙ set_at back (mid ++ lefts) p (at - 1) once here Gone

        trees : (l : BoundTree) (u o : Option BoundTree) → Holds r (p ∷ []) o → Holds l ls u → HoldBoth (Gone ∷ []) lefts r l (both_merged u o)
        trees l u o on_right on_left =
            let own = own_range key a f.1 on_right in
            let there : slice_get all (at - 1) ≡ Some (Open own.range own.next) = right_there ∙ ap Some own.place in
            let apart = apart_of r cut.front own.key (none_behind ((back ++ p ∷ mid) ++ cut.back) cut.front (Open met.range met.next) first in_two cut.at (turned key) f.2) in
            let w = holds_merged r met.range met.next b on_left (λ c e. merged.2 met.range own.range met.next own.next c r met.there there e own.seen) cut.back cut.front cut.parts apart in
            let same : both_merged u o ≡ (Some w.tree, None) = ap (both_merged u) own.whole ∙ some_merged r w.tree u a w.merged in
            subst (HoldBoth (Gone ∷ []) lefts r l) (sym same) (gone_range a, w.holds)

-- ---- a left conjunct

module _ {all back rs mid : List Place} {p : Place} {front : List Place} {l : BoundTree} {at begin : ℕ} (a : is_and l ≡ false) (s : IsLeft all back rs mid (p ∷ []) front l at begin) where
  abbrev rest : List Place
  rest = mid ++ p ∷ front

  left_split : all ≡ (back ++ (rs ++ mid)) ++ p ∷ front
  left_split = s.parts ∙ (ap (λ z. back ++ z) (sym (append_assoc rs mid (p ∷ front))) ∙ sym (append_assoc back (rs ++ mid) (p ∷ front)))

  left_here : at - 1 ≡ length (back ++ (rs ++ mid))
  left_here = omega (arith, s.at_back, length-append back (rs ++ (mid ++ p ∷ [])), length-append rs (mid ++ p ∷ []), length-append mid (p ∷ []), length-append back (rs ++ mid), length-append rs mid)

  left_there : slice_get all (at - 1) ≡ Some p
  left_there = slice_at (back ++ (rs ++ mid)) front p (at - 1) left_split left_here

  pub left_alone : NoneFrom all begin p → MergedLeft all back rs mid (p ∷ []) front l
  left_alone none = record {
    rights = rs;
    lefts = p ∷ [];
    parts = s.parts;
    long_right = refl;
    long_left = refl;
    stays = λ f. (refl, refl);
    rights_within = λ k h. h;
    lefts_within = λ k h. h;
    apart = λ k h i. either (λ f. apart (turned k) f (subst (Has rs) (sym (turned_back k)) h)) (λ j. absurd j) i;
    trees = λ r u o on_right on_left. trees r u o on_right on_left;
  }
    where
      apart : (k : Bounded) → bounded_by p ≡ Some k → Has rs (turned k) → ⊥
      apart k e h = none_apart back (rs ++ rest) s.parts begin p s.at_right none k e (has_first rs rest (turned k) h)

      trees : (r : BoundTree) (u o : Option BoundTree) → Holds r rs o → Holds l (p ∷ []) u → HoldBoth rs (p ∷ []) r l (both_merged u o)
      trees r None o on_right on_left = (on_right, on_left)
      trees r (Some u) o on_right on_left =
          let key = single_keyed on_left in
          let same : both_merged (Some u) o ≡ (Some u, o) = whole_held u key.no_and on_right (λ k e i. apart k (sym key.key ∙ e) i) in
          subst (HoldBoth rs (p ∷ []) r l) (sym same) (on_right, on_left)

  module _ (first : ℕ) (late : begin ≤ first) (f : IsFirstOf all first p) where
    abbrev left_key : Bounded
    left_key = f.0

    left_begins : length back ≤ first
    left_begins = omega (arith, s.at_right)

    left_open : IsOpen all first (turned left_key)
    left_open = open_at all first (turned left_key) f.2.1

    abbrev partner : Place
    partner = Open left_open.range left_open.next

    -- the partner is one of the right conjuncts
    record IsAmong : Type 0 where
      before : List Place
      after : List Place
      parts : rs ≡ before ++ partner ∷ after
      place : first ≡ length (back ++ before)

    among : IsAmong
    among =
        let cut = behind back (rs ++ rest) first partner left_begins (subst (λ z. slice_get z first ≡ Some partner) s.parts left_open.there) in
        go cut (parts_of rs rest cut.back partner cut.front cut.parts)
      where
        own : Has rest left_key
        own = has_second mid (p ∷ front) left_key (inl f.1)

        go : (cut : IsBehind back (rs ++ rest) first partner) → Parts rs rest cut.back partner cut.front → IsAmong
        go cut (in_rs after e g) = record { before = cut.back; after = after; parts = e; place = cut.at }
        go cut (in_ls before e g) =
            let there : Has rest (turned left_key) = subst (λ z. Has z (turned left_key)) (sym g) (has_second before (partner ∷ cut.front) (turned left_key) (inl (ap Some left_open.key))) in
            absurd (s.alone left_key own there)

    left_has_it : Has rs (turned left_key)
    left_has_it = subst (λ z. Has z (turned left_key)) (sym among.parts) (has_second among.before (partner ∷ among.after) (turned left_key) (inl (ap Some left_open.key)))

    pub left_pair : IsPair all (at - 1) first
    left_pair = (
      turned left_key,
      subst (λ k. IsLast all k (length all) (Some (at - 1))) (sym (turned_back left_key))
          (last_at (back ++ (rs ++ mid)) front p (at - 1) left_split left_here left_key f.1 (λ h. s.apart (turned left_key) left_has_it (subst (Has front) (sym (turned_back left_key)) h))),
      f.2,
    )

    pub left_merged : {new : List Place} → PairIsMerged all (at - 1) first new → MergedLeft new back rs mid (p ∷ []) front l
    left_merged {new = new} merged = record {
      rights = rights;
      lefts = Merged b ∷ [];
      parts = written;
      long_right = length-append among.before (Gone ∷ among.after) ∙ sym (ap length among.parts ∙ length-append among.before (partner ∷ among.after));
      long_left = refl;
      stays = λ g. absurd (g left_key (inl f.1) left_has_it);
      rights_within = λ k h. subst (λ z. Has z k) (sym among.parts) (replaced_within among.before among.after partner Gone refl k h);
      lefts_within = λ k h. absurd (none_of (Merged b) refl k h);
      apart = λ k h i. none_of (Merged b) refl (turned k) i;
      trees = trees;
    }
      where
        b : Box BoundExpression Global
        b = merged.0

        rights : List Place
        rights = among.before ++ Gone ∷ among.after

        tail : List Place
        tail = mid ++ Merged b ∷ front

        once : set all (at - 1) (Merged b) ≡ back ++ (rs ++ tail)
        once = set_at (back ++ (rs ++ mid)) front p (at - 1) left_split left_here (Merged b) ∙ (append_assoc back (rs ++ mid) (Merged b ∷ front) ∙ ap (λ z. back ++ z) (append_assoc rs mid (Merged b ∷ front)))

        regroup : (q : Place) (rest : List Place) → back ++ ((among.before ++ q ∷ among.after) ++ rest) ≡ (back ++ among.before) ++ q ∷ (among.after ++ rest)
        regroup q rest = ap (λ z. back ++ z) (append_assoc among.before (q ∷ among.after) rest) ∙ sym (append_assoc back among.before (q ∷ (among.after ++ rest)))

        parted : {list : List Place} (rest : List Place) → list ≡ back ++ (rs ++ rest) → list ≡ (back ++ among.before) ++ partner ∷ (among.after ++ rest)
        parted rest e = e ∙ (ap (λ z. back ++ (z ++ rest)) among.parts ∙ regroup partner rest)

        written : new ≡ back ++ (rights ++ (mid ++ ((Merged b ∷ []) ++ front)))
        written = merged.1 ∙ (set_at (back ++ among.before) (among.after ++ tail) partner first (parted tail once) among.place Gone ∙ sym (regroup Gone tail))

        none_after : Has among.after (turned left_key) → ⊥
        none_after h = none_behind (back ++ among.before) (among.after ++ rest) partner first (parted rest s.parts) among.place (turned left_key) f.2 (has_first among.after rest (turned left_key) h)

        trees : (r : BoundTree) (u o : Option BoundTree) → Holds r rs o → Holds l (p ∷ []) u → HoldBoth rights (Merged b ∷ []) r l (both_merged u o)
        trees r u o on_right on_left =
            let own = own_range left_key a f.1 on_left in
            let there : slice_get all (at - 1) ≡ Some (Open own.range own.next) = left_there ∙ ap Some own.place in
            let apart = apart_of l among.after own.key none_after in
            let w = holds_gone l (tree_in b) left_open.range left_open.next a on_right (λ d e. merged.2 own.range left_open.range own.next left_open.next l d there left_open.there own.seen e) among.before among.after among.parts apart in
            let same : both_merged u o ≡ (Some (tree_in b), w.rest) = ap (λ z. both_merged z o) own.whole ∙ w.merged in
            subst (HoldBoth rights (Merged b ∷ []) r l) (sym same) (w.holds, merged_range a w.plain.0 w.plain.1)

-- ---- a side that is a single conjunct

module _ {all back rs mid ls : List Place} {r : BoundTree} {at start : ℕ} (a : is_and r ≡ false) (s : IsRight all back rs mid ls r at start) where
  right_one : (p : Place) × (rs ≡ p ∷ [])
  right_one = single_list rs r a s.count

  right_stands_alone : IsRight all back (right_one.0 ∷ []) mid ls r at start
  right_stands_alone = subst (λ z. IsRight all back z mid ls r at start) right_one.1 s

  pub right_inside : (1 ≤ at) × (at - 1 < length all)
  right_inside =
      let count : at ≡ length back + 1 = (let e : at ≡ length (back ++ right_one.0 ∷ []) = right_stands_alone.at_back in omega (arith, length-append back (right_one.0 ∷ []))) in
      let whole : length all ≡ length (back ++ right_one.0 ∷ (mid ++ ls)) = ap length right_stands_alone.parts in
      (omega arith, omega (arith, length-append back (right_one.0 ∷ (mid ++ ls))))

  pub right_kept : ((p : Place) → slice_get all (at - 1) ≡ Some p → NoneFrom all start p) → MergedRight all back rs mid ls r
  right_kept none = subst (λ z. MergedRight all back z mid ls r) (sym right_one.1) (right_alone a right_stands_alone (none right_one.0 (right_there a right_stands_alone)))

  module _ (first : ℕ) (found : (p : Place) → slice_get all (at - 1) ≡ Some p → (start ≤ first) × IsFirstOf all first p) where
    pub right_pairs : IsPair all first (at - 1)
    right_pairs = let f = found right_one.0 (right_there a right_stands_alone) in right_pair a right_stands_alone first f.0 f.1

    pub right_taken : {new : List Place} → PairIsMerged all first (at - 1) new → MergedRight new back rs mid ls r
    right_taken {new = new} merged = let f = found right_one.0 (right_there a right_stands_alone) in subst (λ z. MergedRight new back z mid ls r) (sym right_one.1) (right_merged a right_stands_alone first f.0 f.1 merged)

module _ {all back rs mid ls front : List Place} {l : BoundTree} {at begin : ℕ} (a : is_and l ≡ false) (s : IsLeft all back rs mid ls front l at begin) where
  left_one : (p : Place) × (ls ≡ p ∷ [])
  left_one = single_list ls l a s.count

  left_stands_alone : IsLeft all back rs mid (left_one.0 ∷ []) front l at begin
  left_stands_alone = subst (λ z. IsLeft all back rs mid z front l at begin) left_one.1 s

  pub left_inside : (1 ≤ at) × (at - 1 < length all)
  left_inside =
      let e : at ≡ length (back ++ (rs ++ (mid ++ left_one.0 ∷ []))) = left_stands_alone.at_back in
      let begun : at - 1 ≡ length (back ++ (rs ++ mid)) = left_here a left_stands_alone in
      let whole : length all ≡ length ((back ++ (rs ++ mid)) ++ left_one.0 ∷ front) = ap length (left_split a left_stands_alone) in
      (omega (arith, length-append back (rs ++ (mid ++ left_one.0 ∷ [])), length-append rs (mid ++ left_one.0 ∷ []), length-append mid (left_one.0 ∷ [])), omega (arith, length-append (back ++ (rs ++ mid)) (left_one.0 ∷ front)))

  pub left_kept : ((p : Place) → slice_get all (at - 1) ≡ Some p → NoneFrom all begin p) → MergedLeft all back rs mid ls front l
  left_kept none = subst (λ z. MergedLeft all back rs mid z front l) (sym left_one.1) (left_alone a left_stands_alone (none left_one.0 (left_there a left_stands_alone)))

  module _ (first : ℕ) (found : (p : Place) → slice_get all (at - 1) ≡ Some p → (begin ≤ first) × IsFirstOf all first p) where
    pub left_pairs : IsPair all (at - 1) first
    left_pairs = let f = found left_one.0 (left_there a left_stands_alone) in left_pair a left_stands_alone first f.0 f.1

    pub left_taken : {new : List Place} → PairIsMerged all (at - 1) first new → MergedLeft new back rs mid ls front l
    left_taken {new = new} merged = let f = found left_one.0 (left_there a left_stands_alone) in subst (λ z. MergedLeft new back rs mid z front l) (sym left_one.1) (left_merged a left_stands_alone first f.0 f.1 merged)
