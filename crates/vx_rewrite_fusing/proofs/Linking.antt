-- Where the ranges of an item stand, after a conjunct is put in front or merged.
use Rattle.std.proofs.Common.{◌≡◌, ◌⊎◌, inl, inr, ℕ, zero, suc, ◌<◌, ◌≤◌, List, [], ◌∷◌, ◌++◌, length, get_or, set, refl, sym, subst, ap, ◌∙◌, Bool, true, false, arith, length-append, length-set}
use Rattle.std.specs.Prelude.{Option, Some, None, slice_get}
use Rattle.std.proofs.lemmas.Option.{slice_get_read}
use Rattle.std.specs.declared.alloc.Global.{Global}
use Rattle.std.specs.declared.boxed.Box.{Box}
use denote.Ref.{Bor}
use Rattle.vx_tree.specs.Equality.{equal_bound, equal_bound-Decides}
use Rattle.vx_tree.specs.Trees.{BoundTree}
use Rattle.vx_tree.specs.Views.{bound_of}
use Rattle.vx_tree.specs.declared.bound.BoundExpression.{BoundExpression}
use Rattle.vx_rewrite_fusing.specs.declared.places.Places.{Places}
use Rattle.vx_rewrite_fusing.specs.declared.places.Link.{Link}
use Rattle.vx_rewrite_fusing.specs.declared.places.Place.{Place}
use Rattle.vx_rewrite_fusing.specs.declared.places.Place.TheVariants.{Other, Open, Merged, Gone}
use Rattle.vx_rewrite_fusing.specs.declared.ranges.RangeComparison.{RangeComparison}
use Rattle.vx_rewrite_fusing.specs.declared.ranges.Side.{Side}
use Rattle.vx_rewrite_fusing.specs.declared.ranges.Side.TheVariants.{Below, Above}
use Rattle.vx_rewrite_fusing.specs.Places.{opposite, turned, Bounded, bounded_by, bounded_at, first_at, first_by, next_of, next_at, number_at, place_at, IsFirstOf, IsLast, head_of, IsNumbered, IsPair, KeepsNumbers, NoneFrom, SetsFirst, SetsHead, IsLinked}
use Rattle.vx_rewrite_fusing.specs.declared.heads.Heads.{Heads}
use Rattle.vx_rewrite_fusing.proofs.Heading.{sets_head, sets_numbered}
use Rattle.vx_rewrite_fusing.proofs.Reading.{read_apart, read_behind, read_front, read_here, read_inside, read_set}
use Rattle.vx_rewrite_fusing.proofs.Merges.{either}

-- the place that is read
pub place_read : (ps : List Place) (i : ℕ) (p : Place) → i < length ps → p ≡ get_or ps i p → slice_get ps i ≡ Some p
place_read ps i p l e = slice_get_read ps (length ps) i p refl l e

pub bounded_read : (ps : List Place) (i : ℕ) (p : Place) → i < length ps → p ≡ get_or ps i p → bounded_at ps i ≡ bounded_by p
bounded_read ps i p l e = read_here bounded_by ps i p (place_read ps i p l e)

-- ---- the last place of an item

pub below_or : (i n : ℕ) → (i < n) ⊎ (n ≤ i)
below_or i zero = inr (omega arith)
below_or zero (suc n) = inl (omega arith)
below_or (suc i) (suc n) = either (λ (l : i < n). inl (omega arith)) (λ (l : n ≤ i). inr (omega arith)) (below_or i n)

last_agrees : (ps qs : List Place) (k : Bounded) (n : ℕ) (o : Option ℕ) → ((i : ℕ) → i < n → bounded_at ps i ≡ Some k → bounded_at qs i ≡ Some k) → ((i : ℕ) → i < n → bounded_at qs i ≡ Some k → bounded_at ps i ≡ Some k) → IsLast ps k n o → IsLast qs k n o
last_agrees ps qs k n None f g h = λ i l e. h i l (g i l e)
last_agrees ps qs k n (Some j) f g h = (h.0, f j h.0 h.1, λ i a b e. h.2 i a b (g i b e))

last_up : (ps : List Place) (k : Bounded) (n m : ℕ) (o : Option ℕ) → n ≤ m → ((i : ℕ) → n ≤ i → i < m → bounded_at ps i ≡ Some k → ⊥) → IsLast ps k n o → IsLast ps k m o
last_up ps k n m None l f h = λ i b e. either (λ p. h i p e) (λ p. f i p b e) (below_or i n)
last_up ps k n m (Some j) l f h = (let a : j < n = h.0 in omega arith, h.1, λ i a b e. either (λ p. h.2 i a p e) (λ p. f i p b e) (below_or i n))

last_front : (ps qs : List Place) (k : Bounded) (n : ℕ) (o : Option ℕ) → n ≤ length ps → IsLast ps k n o → IsLast (ps ++ qs) k n o
last_front ps qs k n o l h = last_agrees ps (ps ++ qs) k n o
    (λ i b e. read_front bounded_by ps qs i (omega arith) ∙ e)
    (λ i b e. sym (read_front bounded_by ps qs i (omega arith)) ∙ e)
    h

-- a place of another item behind the last one
last_past : (ps : List Place) (p : Place) (k : Bounded) (o : Option ℕ) → (bounded_by p ≡ Some k → ⊥) → IsLast ps k (length ps) o → IsLast (ps ++ p ∷ []) k (length (ps ++ p ∷ [])) o
last_past ps p k o n h = last_up (ps ++ p ∷ []) k (length ps) (length (ps ++ p ∷ [])) o (omega (arith, length-append ps (p ∷ [])))
    (λ i a b e.
    let same : i ≡ length ps = omega (arith, length-append ps (p ∷ [])) in
    n (sym (read_behind bounded_by ps p []) ∙ (ap (bounded_at (ps ++ p ∷ [])) (sym same) ∙ e)))
    (last_front ps (p ∷ []) k (length ps) o (omega arith) h)

-- a place of the item behind the last one
last_there : (ps : List Place) (p : Place) (k : Bounded) → bounded_by p ≡ Some k → IsLast (ps ++ p ∷ []) k (length (ps ++ p ∷ [])) (Some (length ps))
last_there ps p k e = (omega (arith, length-append ps (p ∷ [])), read_behind bounded_by ps p [] ∙ e, λ i a b f. omega (arith, length-append ps (p ∷ [])))

-- ---- a conjunct in front

-- the last place of each item is kept behind one more place
abbrev NextsRight : List Place → Type 0
NextsRight ps = (i : ℕ) (k : Bounded) → bounded_at ps i ≡ Some k → IsLast ps k i (next_at ps i)

nexts_pushed : (ps : List Place) (p : Place) → NextsRight ps → ((k : Bounded) → bounded_by p ≡ Some k → IsLast ps k (length ps) (next_of p)) → NextsRight (ps ++ p ∷ [])
nexts_pushed ps p f g i k e = either inside at_end (below_or i (length ps))
  where
    inside : i < length ps → IsLast (ps ++ p ∷ []) k i (next_at (ps ++ p ∷ []) i)
    inside l = subst (IsLast (ps ++ p ∷ []) k i) (sym (read_front next_of ps (p ∷ []) i l)) (last_front ps (p ∷ []) k i (next_at ps i) (omega arith) (f i k (sym (read_front bounded_by ps (p ∷ []) i l) ∙ e)))

    at_end : length ps ≤ i → IsLast (ps ++ p ∷ []) k i (next_at (ps ++ p ∷ []) i)
    at_end l =
        let b = read_inside bounded_by (ps ++ p ∷ []) i k e in
        let same : length ps ≡ i = omega (arith, length-append ps (p ∷ [])) in
        let here : bounded_by p ≡ Some k = sym (read_behind bounded_by ps p []) ∙ (ap (bounded_at (ps ++ p ∷ [])) same ∙ e) in
        subst (λ j. IsLast (ps ++ p ∷ []) k j (next_at (ps ++ p ∷ []) j)) same
        (subst (IsLast (ps ++ p ∷ []) k (length ps)) (sym (read_behind next_of ps p [])) (last_front ps (p ∷ []) k (length ps) (next_of p) (omega arith) (g k here)))

tree_or : (b c : BoundTree) → (b ≡ c) ⊎ (b ≡ c → ⊥)
tree_or b c = go (equal_bound b c) refl
  where
    go : (r : Bool) → equal_bound b c ≡ r → (b ≡ c) ⊎ (b ≡ c → ⊥)
    go true e = inl ((equal_bound-Decides b c).0 e)
    go false e = inr (λ h. let f : equal_bound b c ≡ true = (equal_bound-Decides b c).1 h in cc)

-- whether two ranges bound one item from one side
pub same_or : (t s : Side) (b c : BoundTree) → ((t ≡ s) × (b ≡ c)) ⊎ ((t ≡ s) × (b ≡ c) → ⊥)
same_or Below Below b c = either (λ e. inl (refl, e)) (λ n. inr (λ h. n h.1)) (tree_or b c)
same_or Above Above b c = either (λ e. inl (refl, e)) (λ n. inr (λ h. n h.1)) (tree_or b c)
same_or Below Above b c = inr (λ h. let e : Below ≡ Above = h.0 in cc)
same_or Above Below b c = inr (λ h. let e : Above ≡ Below = h.0 in cc)

pub parts_same : {s t : Side} {b c : BoundTree} → ◌≡◌ {A = Option Bounded} (Some (s, b)) (Some (t, c)) → (s ≡ t) × (b ≡ c)
parts_same {s = s} {t = t} {b = b} {c = c} e = (ap side e, ap tree e)
  where
    side : Option Bounded → Side
    side None = s
    side (Some k) = k.0

    tree : Option Bounded → BoundTree
    tree None = b
    tree (Some k) = k.1

-- a place of a list with one more at its end
slice_pushed : (ps : List Place) (p q : Place) (i : ℕ) → slice_get (ps ++ p ∷ []) i ≡ Some q → (slice_get ps i ≡ Some q) ⊎ (p ≡ q)
slice_pushed [] p q zero e = inr (cc)
slice_pushed [] p q (suc i) e = cc
slice_pushed (x ∷ ps) p q zero e = inl e
slice_pushed (x ∷ ps) p q (suc i) e = slice_pushed ps p q i e

pub pushed_open : (old new : Places) (r : RangeComparison) (link : Link) → IsLinked old → new.list.items ≡ old.list.items ++ Open r link ∷ [] → link.next ≡ head_of old.heads r.side r.item → SetsHead old.heads new.heads r.side r.item (Some (length old.list.items))
    → IsNumbered new.heads → ((x : Bor BoundExpression) (n : ℕ) → number_at old.heads x ≡ Some n → number_at new.heads x ≡ Some n) → number_at new.heads r.item ≡ Some link.number → IsLinked new
pushed_open old new r link linked e before sets numbered keeps mine = record {
  heads = λ s x. subst (λ qs. IsLast qs (s, bound_of x.now) (length qs) (head_of new.heads s x)) (sym e) (either (here s x) (elsewhere s x) (same_or s r.side (bound_of x.now) (bound_of r.item.now)));
  nexts = subst NextsRight (sym e) (nexts_pushed ps p linked.nexts (λ k f. subst (λ j. IsLast ps j (length ps) link.next) (own k f) (subst (IsLast ps (r.side, bound_of r.item.now) (length ps)) (sym before) (linked.heads r.side r.item))));
  numbered = numbered;
  own = λ i q l f. either
      (λ g. keeps q.item l.number (linked.own i q l g))
      (λ (g : p ≡ Open q l). let range : r ≡ q = cc in let same : link ≡ l = cc in subst (λ z. number_at new.heads z.item ≡ Some l.number) range (subst (λ z. number_at new.heads r.item ≡ Some z.number) same mine))
      (slice_pushed ps p (Open q l) i (subst (λ z. slice_get z i ≡ Some (Open q l)) e f));
}
  where
    ps : List Place
    ps = old.list.items

    p : Place
    p = Open r link

    own : (k : Bounded) → Some (r.side, bound_of r.item.now) ≡ Some k → (r.side, bound_of r.item.now) ≡ k
    own k f = cc

    here : (s : Side) (x : Bor BoundExpression) → (s ≡ r.side) × (bound_of x.now ≡ bound_of r.item.now) → IsLast (ps ++ p ∷ []) (s, bound_of x.now) (length (ps ++ p ∷ [])) (head_of new.heads s x)
    here s x same = subst (IsLast (ps ++ p ∷ []) (s, bound_of x.now) (length (ps ++ p ∷ []))) (sym ((sets s x).0 same)) (last_there ps p (s, bound_of x.now) (rw (same.0, same.1) refl))

    elsewhere : (s : Side) (x : Bor BoundExpression) → ((s ≡ r.side) × (bound_of x.now ≡ bound_of r.item.now) → ⊥) → IsLast (ps ++ p ∷ []) (s, bound_of x.now) (length (ps ++ p ∷ [])) (head_of new.heads s x)
    elsewhere s x apart = subst (IsLast (ps ++ p ∷ []) (s, bound_of x.now) (length (ps ++ p ∷ []))) (sym ((sets s x).1 apart)) (last_past ps p (s, bound_of x.now) (head_of old.heads s x) (λ f. let q = parts_same f in apart (sym q.0, sym q.1)) (linked.heads s x))

-- the same from what is kept once the item has its number
pub pushed_numbered : (old new : Places) (middle : Heads) (r : RangeComparison) (link : Link) → IsLinked old → new.list.items ≡ old.list.items ++ Open r link ∷ [] → IsNumbered middle → KeepsNumbers old.heads middle → number_at middle r.item ≡ Some link.number
    → link.next ≡ first_at middle.firsts.items r.side link.number → new.heads.numbers ≡ middle.numbers → SetsFirst middle.firsts.items new.heads.firsts.items r.side link.number (Some (length old.list.items)) → IsLinked new
pushed_numbered old new middle r link linked e numbered keeps mine first same sets =
    let there : head_of middle r.side r.item ≡ first_at middle.firsts.items r.side link.number = ap (first_by middle.firsts.items r.side) mine in
    let at = sets_head middle new.heads r.side r.item link.number (Some (length old.list.items)) numbered mine same sets in
    let whole : SetsHead old.heads new.heads r.side r.item (Some (length old.list.items)) = (λ t y. ((at t y).0, λ n. (at t y).1 n ∙ keeps.0 t y)) in
    pushed_open old new r link linked e (first ∙ (sym there ∙ keeps.0 r.side r.item)) whole (sets_numbered middle new.heads r.side link.number (Some (length old.list.items)) numbered same sets)
    (λ x n f. ap (λ z. place_at z (bound_of x.now)) same ∙ keeps.1 x n f) (ap (λ z. place_at z (bound_of r.item.now)) same ∙ mine)

pub pushed_other : (old new : Places) → IsLinked old → new.list.items ≡ old.list.items ++ Other ∷ [] → new.heads ≡ old.heads → IsLinked new
pushed_other old new linked e same = record {
  heads = λ s x. subst (λ qs. IsLast qs (s, bound_of x.now) (length qs) (head_of new.heads s x)) (sym e) (subst (λ h. IsLast (ps ++ Other ∷ []) (s, bound_of x.now) (length (ps ++ Other ∷ [])) (head_of h s x)) (sym same) (last_past ps Other (s, bound_of x.now) (head_of old.heads s x) (λ f. cc) (linked.heads s x)));
  nexts = subst NextsRight (sym e) (nexts_pushed ps Other linked.nexts (λ k f. cc));
  numbered = subst IsNumbered (sym same) linked.numbered;
  own = λ i q l f. subst (λ h. number_at h q.item ≡ Some l.number) (sym same) (either (linked.own i q l) (λ (g : Other ≡ Open q l). cc) (slice_pushed ps Other (Open q l) i (subst (λ z. slice_get z i ≡ Some (Open q l)) e f)));
}
  where
    ps : List Place
    ps = old.list.items

-- ---- a range that is merged

slice_apart : (ps : List Place) (i j : ℕ) (q : Place) → (j ≡ i → ⊥) → slice_get (set ps i q) j ≡ slice_get ps j
slice_apart [] i j q n = refl
slice_apart (p ∷ ps) zero zero q n = absurd (n refl)
slice_apart (p ∷ ps) zero (suc j) q n = refl
slice_apart (p ∷ ps) (suc i) zero q n = refl
slice_apart (p ∷ ps) (suc i) (suc j) q n = slice_apart ps i j q (λ e. n (ap suc e))

-- a range is taken out
module _ (ps : List Place) (i : ℕ) (q : Place) (k : Bounded) (gone : bounded_by q ≡ None) (inside : i < length ps) (here : bounded_at ps i ≡ Some k) (behind : (j : ℕ) → i < j → j < length ps → bounded_at ps j ≡ Some k → ⊥) where
  open_apart : (j : ℕ) (h : Bounded) → bounded_at (set ps i q) j ≡ Some h → j ≡ i → ⊥
  open_apart j h e s = let f : bounded_at (set ps i q) i ≡ None = read_set bounded_by ps i q inside ∙ gone in let g : bounded_at (set ps i q) i ≡ Some h = subst (λ m. bounded_at (set ps i q) m ≡ Some h) s e in cc

  last_of_other : (h : Bounded) (n : ℕ) (o : Option ℕ) → (h ≡ k → ⊥) → IsLast ps h n o → IsLast (set ps i q) h n o
  last_of_other h n o apart last = last_agrees ps (set ps i q) h n o
      (λ j l e. read_apart bounded_by ps i j q (λ s. let f : bounded_at ps i ≡ Some h = subst (λ m. bounded_at ps m ≡ Some h) s e in apart (cc)) ∙ e)
      (λ j l e. sym (read_apart bounded_by ps i j q (open_apart j h e)) ∙ e)
      last

  last_below : (h : Bounded) (n : ℕ) (o : Option ℕ) → n ≤ i → IsLast ps h n o → IsLast (set ps i q) h n o
  last_below h n o l last = last_agrees ps (set ps i q) h n o
      (λ j b e. read_apart bounded_by ps i j q (λ s. omega arith) ∙ e)
      (λ j b e. sym (read_apart bounded_by ps i j q (λ s. omega arith)) ∙ e)
      last

  last_of_it : (o : Option ℕ) → IsLast ps k i o → IsLast (set ps i q) k (length (set ps i q)) o
  last_of_it o last = last_up (set ps i q) k i (length (set ps i q)) o (omega (arith, length-set ps i q))
      (λ j a b e.
      let n : j ≡ i → ⊥ = open_apart j k e in
      let less : j < length ps = omega (arith, length-set ps i q) in
      let above : i < j = apart_above i j a n in
      behind j above less (sym (read_apart bounded_by ps i j q n) ∙ e))
      (last_below k i o (omega arith) last)
    where
      apart_above : (a b : ℕ) → a ≤ b → (b ≡ a → ⊥) → a < b
      apart_above a b l n = either (λ m. m) (λ m. absurd (n (omega arith))) (below_or a b)

  nexts_set : NextsRight ps → NextsRight (set ps i q)
  nexts_set f j h e = subst (IsLast (set ps i q) h j) (sym (read_apart next_of ps i j q n)) (either past front (below_or i j))
    where
      n : j ≡ i → ⊥
      n = open_apart j h e

      was : bounded_at ps j ≡ Some h
      was = sym (read_apart bounded_by ps i j q n) ∙ e

      past : i < j → IsLast (set ps i q) h j (next_at ps j)
      past l = last_of_other h j (next_at ps j) (λ s. behind j l (read_inside bounded_by ps j h was) (was ∙ ap Some s)) (f j h was)

      front : j ≤ i → IsLast (set ps i q) h j (next_at ps j)
      front l = last_below h j (next_at ps j) l (f j h was)

-- the kept place is one of the range
pub first_is : (places : Places) (s : Side) (x : Bor BoundExpression) (i : ℕ) → IsLinked places → head_of places.heads s x ≡ Some i → IsLast places.list.items (s, bound_of x.now) (length places.list.items) (Some i)
first_is places s x i linked e = subst (IsLast places.list.items (s, bound_of x.now) (length places.list.items)) e (linked.heads s x)

pub none_is : (places : Places) (s : Side) (x : Bor BoundExpression) → IsLinked places → head_of places.heads s x ≡ None → (j : ℕ) → bounded_at places.list.items j ≡ Some (s, bound_of x.now) → ⊥
none_is places s x linked e j f = go (subst (IsLast places.list.items (s, bound_of x.now) (length places.list.items)) e (linked.heads s x))
  where
    go : IsLast places.list.items (s, bound_of x.now) (length places.list.items) None → ⊥
    go h = h j (read_inside bounded_by places.list.items j (s, bound_of x.now) f) f

-- the first range of an item is taken out
pub removed_linked : (old new : Places) (s : Side) (x : Bor BoundExpression) (i : ℕ) (r : RangeComparison) (after : Link) (q : Place) → bounded_by q ≡ None → IsLinked old → head_of old.heads s x ≡ Some i → slice_get old.list.items i ≡ Some (Open r after) → SetsHead old.heads new.heads s x after.next → new.heads.numbers ≡ old.heads.numbers → IsNumbered new.heads → new.list.items ≡ set old.list.items i q → IsLinked new
removed_linked old new s x i r after q gone linked head there sets same numbered e = record {
  heads = λ t y. subst (λ qs. IsLast qs (t, bound_of y.now) (length qs) (head_of new.heads t y)) (sym e) (either (here t y) (elsewhere t y) (same_or t s (bound_of y.now) (bound_of x.now)));
  nexts = subst NextsRight (sym e) (nexts_set ps i q (s, bound_of x.now) gone last.0 last.1 last.2 linked.nexts);
  numbered = numbered;
  own = own;
}
  where
    ps : List Place
    ps = old.list.items

    qs : List Place
    qs = set ps i q

    last : (i < length ps) × (bounded_at ps i ≡ Some (s, bound_of x.now)) × ((j : ℕ) → i < j → j < length ps → bounded_at ps j ≡ Some (s, bound_of x.now) → ⊥)
    last = first_is old s x i linked head

    own : (j : ℕ) (p : RangeComparison) (link : Link) → slice_get new.list.items j ≡ Some (Open p link) → number_at new.heads p.item ≡ Some link.number
    own j p link f = ap (λ z. place_at z (bound_of p.item.now)) same ∙ linked.own j p link (sym (slice_apart ps i j q apart) ∙ there_now)
      where
        there_now : slice_get (set ps i q) j ≡ Some (Open p link)
        there_now = subst (λ z. slice_get z j ≡ Some (Open p link)) e f

        apart : j ≡ i → ⊥
        apart h =
            let read : bounded_at (set ps i q) i ≡ None = read_set bounded_by ps i q last.0 ∙ gone in
            let held : bounded_at (set ps i q) j ≡ Some (p.side, bound_of p.item.now) = read_here bounded_by (set ps i q) j (Open p link) there_now in
            let at : bounded_at (set ps i q) i ≡ Some (p.side, bound_of p.item.now) = subst (λ m. bounded_at (set ps i q) m ≡ Some (p.side, bound_of p.item.now)) h held in
            cc

    next : IsLast ps (s, bound_of x.now) i after.next
    next = subst (IsLast ps (s, bound_of x.now) i) (read_here next_of ps i (Open r after) there) (linked.nexts i (s, bound_of x.now) last.1)

    here : (t : Side) (y : Bor BoundExpression) → (t ≡ s) × (bound_of y.now ≡ bound_of x.now) → IsLast qs (t, bound_of y.now) (length qs) (head_of new.heads t y)
    here t y h = subst (IsLast qs (t, bound_of y.now) (length qs)) (sym ((sets t y).0 h)) (rw (h.0, h.1) (last_of_it ps i q (s, bound_of x.now) gone last.0 last.1 last.2 after.next next))

    elsewhere : (t : Side) (y : Bor BoundExpression) → ((t ≡ s) × (bound_of y.now ≡ bound_of x.now) → ⊥) → IsLast qs (t, bound_of y.now) (length qs) (head_of new.heads t y)
    elsewhere t y n = subst (IsLast qs (t, bound_of y.now) (length qs)) (sym ((sets t y).1 n)) (last_of_other ps i q (s, bound_of x.now) gone last.0 last.1 last.2 (t, bound_of y.now) (length qs) (head_of old.heads t y) (λ h. n (ap (λ (z : Bounded). z.0) h, ap (λ (z : Bounded). z.1) h))
        (rw (length-set ps i q) (linked.heads t y)))

-- ---- partners

pub turned_apart : (k : Bounded) → k ≡ turned k → ⊥
turned_apart (Below, x) e = let s : Below ≡ Above = ap (λ (z : Bounded). z.0) e in cc
turned_apart (Above, x) e = let s : Above ≡ Below = ap (λ (z : Bounded). z.0) e in cc

last_unique : (ps : List Place) (k : Bounded) (n : ℕ) (o p : Option ℕ) → IsLast ps k n o → IsLast ps k n p → o ≡ p
last_unique ps k n None None h g = refl
last_unique ps k n None (Some j) h g = absurd (h j g.0 g.1)
last_unique ps k n (Some i) None h g = absurd (g i h.0 h.1)
last_unique ps k n (Some i) (Some j) h g = either
    (λ (l : i < j). absurd (h.2 j l g.0 g.1))
    (λ (l : j ≤ i). either (λ (m : j < i). absurd (g.2 i m h.0 h.1)) (λ (m : i ≤ j). let same : i ≡ j = omega arith in ap Some same) (below_or j i))
    (below_or i j)

-- a place that bounds an item has a range
pub record IsOpen (ps : List Place) (i : ℕ) (k : Bounded) : Type 0 where
  pub range : RangeComparison
  pub next : Link
  pub there : slice_get ps i ≡ Some (Open range next)
  pub key : (range.side, bound_of range.item.now) ≡ k

pub open_at : (ps : List Place) (i : ℕ) (k : Bounded) → bounded_at ps i ≡ Some k → IsOpen ps i k
open_at [] i k e = cc
open_at (Other ∷ ps) zero k e = cc
open_at (Open r next ∷ ps) zero k e = record { range = r; next = next; there = refl; key = cc }
open_at (Merged b ∷ ps) zero k e = cc
open_at (Gone ∷ ps) zero k e = cc
open_at (p ∷ ps) (suc i) k e = let h = open_at ps i k e in record { range = h.range; next = h.next; there = h.there; key = h.key }

-- what is kept of the range that is read at a place, of the other side of its item
module _ (places : Places) (at from : ℕ) (p : Place) (r : RangeComparison) (next : Link) (linked : IsLinked places) (inside : at < length places.list.items) (read : p ≡ get_or places.list.items at p) (open_there : p ≡ Open r next) where
  abbrev pub kept : Option ℕ
  kept = first_at places.heads.firsts.items (opposite r.side) next.number

  there : slice_get places.list.items at ≡ Some (Open r next)
  there = place_read places.list.items at p inside read ∙ ap Some open_there

  same_place : (q : Place) → slice_get places.list.items at ≡ Some q → Open r next ≡ q
  same_place q e = let f : Some (Open r next) ≡ Some q = sym there ∙ e in cc

  head_is : head_of places.heads (opposite r.side) r.item ≡ kept
  head_is = ap (first_by places.heads.firsts.items (opposite r.side)) (linked.own at r next there)

  turned_key : (q : Place) (i : ℕ) (k : Bounded) → slice_get places.list.items at ≡ Some q → bounded_by q ≡ Some k → bounded_at places.list.items i ≡ Some (turned k) → bounded_at places.list.items i ≡ Some (opposite r.side, bound_of r.item.now)
  turned_key q i k e f g =
      let same : Some (r.side, bound_of r.item.now) ≡ Some k = ap bounded_by (same_place q e) ∙ f in
      let key : (r.side, bound_of r.item.now) ≡ k = cc in
      g ∙ ap (λ z. Some (turned z)) (sym key)

  pub none_first : kept ≡ None → (q : Place) → slice_get places.list.items at ≡ Some q → NoneFrom places.list.items from q
  none_first none q e i k f l g = none_is places (opposite r.side) r.item linked (head_is ∙ none) i (turned_key q i k e f g)

  pub early_first : (first : ℕ) → kept ≡ Some first → first < from → (q : Place) → slice_get places.list.items at ≡ Some q → NoneFrom places.list.items from q
  early_first first some less q e i k f l g =
      let last = first_is places (opposite r.side) r.item first linked (head_is ∙ some) in
      let here = turned_key q i k e f g in
      last.2 i (omega arith) (read_inside bounded_by places.list.items i (opposite r.side, bound_of r.item.now) here) here

  pub partner_first : (first : ℕ) → kept ≡ Some first → (q : Place) → slice_get places.list.items at ≡ Some q → IsFirstOf places.list.items first q
  partner_first first some q e = subst (IsFirstOf places.list.items first) (same_place q e) ((r.side, bound_of r.item.now), refl, first_is places (opposite r.side) r.item first linked (head_is ∙ some))

-- a range is the first of its side and item where the place of one of these is
pub key_there : (ps : List Place) (i : ℕ) (k : Bounded) (r : RangeComparison) (next : Link) → bounded_at ps i ≡ Some k → slice_get ps i ≡ Some (Open r next) → (r.side, bound_of r.item.now) ≡ k
key_there ps i k r next e f = let g : bounded_at ps i ≡ Some (r.side, bound_of r.item.now) = read_here bounded_by ps i (Open r next) f in cc

pub first_there : (places : Places) (i : ℕ) (k : Bounded) (r : RangeComparison) (next : Link) → IsLinked places → IsLast places.list.items k (length places.list.items) (Some i) → slice_get places.list.items i ≡ Some (Open r next) → head_of places.heads r.side r.item ≡ Some i
first_there places i k r next linked last there =
    let same = key_there places.list.items i k r next last.1 there in
    last_unique places.list.items (r.side, bound_of r.item.now) (length places.list.items) (head_of places.heads r.side r.item) (Some i) (linked.heads r.side r.item)
    (subst (λ z. IsLast places.list.items z (length places.list.items) (Some i)) (sym same) last)

-- what is read at the places of a pair
pub record PairRead (ps : List Place) (left right : ℕ) (c d : RangeComparison) (after next : Link) : Type 0 where
  pub on_left : slice_get ps left ≡ Some (Open c after)
  pub on_right : slice_get ps right ≡ Some (Open d next)
  pub sides : c.side ≡ opposite d.side
  pub item : bound_of c.item.now ≡ bound_of d.item.now

pub pair_read : (ps : List Place) (left right : ℕ) (p q : Place) (c d : RangeComparison) (after next : Link) → p ≡ get_or ps left p → q ≡ get_or ps right q → p ≡ Open c after → q ≡ Open d next → IsPair ps left right → PairRead ps left right c d after next
pair_read ps left right p q c d after next l r e f pair =
    let on_left = place_read ps left p pair.1.0 l ∙ ap Some e in
    let on_right = place_read ps right q pair.2.0 r ∙ ap Some f in
    let left_key = key_there ps left (turned pair.0) c after pair.1.1 on_left in
    let right_key = key_there ps right pair.0 d next pair.2.1 on_right in
    record {
      on_left = on_left;
      on_right = on_right;
      sides = ap (λ (z : Bounded). z.0) left_key ∙ sym (ap (λ (z : Bounded). opposite z.0) right_key);
      item = ap (λ (z : Bounded). z.1) left_key ∙ sym (ap (λ (z : Bounded). z.1) right_key);
    }

-- two ranges are taken out
pub pair_linked : (old middle new : Places) (left right : ℕ) (c d : RangeComparison) (after next : Link) (b : Box BoundExpression Global) → IsLinked old → IsPair old.list.items left right
    → slice_get old.list.items left ≡ Some (Open c after) → slice_get old.list.items right ≡ Some (Open d next)
    → middle.list.items ≡ set old.list.items left (Merged b) → middle.heads.numbers ≡ old.heads.numbers → SetsFirst old.heads.firsts.items middle.heads.firsts.items c.side after.number after.next
    → new.list.items ≡ set middle.list.items right Gone → new.heads.numbers ≡ middle.heads.numbers → SetsFirst middle.heads.firsts.items new.heads.firsts.items d.side next.number next.next → IsLinked new
pair_linked old middle new left right c d after next b linked pair on_left on_right e same sets f same_right sets_right =
    let k = pair.0 in
    let left_key = key_there old.list.items left (turned k) c after pair.1.1 on_left in
    let right_key = key_there old.list.items right k d next pair.2.1 on_right in
    let left_head = first_there old left (turned k) c after linked pair.1 on_left in
    let right_head = first_there old right k d next linked pair.2 on_right in
    let set_left = sets_head old.heads middle.heads c.side c.item after.number after.next linked.numbered (linked.own left c after on_left) same sets in
    let numbered = sets_numbered old.heads middle.heads c.side after.number after.next linked.numbered same sets in
    let good = removed_linked old middle c.side c.item left c after (Merged b) refl linked left_head on_left set_left same numbered e in
    let other : (d.side ≡ c.side) × (bound_of d.item.now ≡ bound_of c.item.now) → ⊥ = (λ h.
    let key : (d.side, bound_of d.item.now) ≡ (c.side, bound_of c.item.now) = rw (h.0, h.1) refl in
    turned_apart k (sym right_key ∙ (key ∙ left_key))) in
    let apart : right ≡ left → ⊥ = (λ h.
    let there : bounded_at old.list.items left ≡ Some k = subst (λ i. bounded_at old.list.items i ≡ Some k) h pair.2.1 in
    let keys : Some k ≡ Some (turned k) = sym there ∙ pair.1.1 in
    turned_apart k (cc)) in
    let head : head_of middle.heads d.side d.item ≡ Some right = (set_left d.side d.item).1 other ∙ right_head in
    let there : slice_get middle.list.items right ≡ Some (Open d next) = ap (λ z. slice_get z right) e ∙ (slice_apart old.list.items left right (Merged b) apart ∙ on_right) in
    let set_right = sets_head middle.heads new.heads d.side d.item next.number next.next numbered (good.own right d next there) same_right sets_right in
    removed_linked middle new d.side d.item right d next Gone refl good head there set_right same_right (sets_numbered middle.heads new.heads d.side next.number next.next numbered same_right sets_right) f
