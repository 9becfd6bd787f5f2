-- The conjuncts of one side of an And merged with those of the other, one after another.
use Rattle.std.proofs.Common.{◌≡◌, ℕ, zero, suc, ◌≤◌, ◌+◌, List, [], ◌∷◌, ◌++◌, length, take, drop, refl, sym, subst, ap, ◌∙◌, arith, append_assoc, length-append}
use Rattle.std.specs.Prelude.{Option, IsFalse}
use Rattle.std.proofs.lemmas.List.{length-take-le, take-append-drop}
use Rattle.vx_fn.specs.Functions.{and_also}
use Rattle.vx_tree.specs.Trees.{BoundTree}
use Rattle.vx_rewrite_fusing.specs.declared.places.Place.{Place}
use Rattle.vx_rewrite_fusing.specs.Conjuncts.{and_node, and_of, is_and, conjuncts, conjoined, IsBinary}
use Rattle.vx_rewrite_fusing.specs.Places.{turned, Has, Holds, both, IsWithin, NoPair}
use Rattle.vx_rewrite_fusing.specs.Sides.{both_merged, HoldBoth, IsLeft, IsRight, MergedLeft, MergedRight}
use Rattle.vx_rewrite_fusing.proofs.Holding.{both_places, has_first, has_second, has_either, holds_count}
use Rattle.vx_rewrite_fusing.proofs.Merges.{alone, either}
use Rattle.vx_rewrite_fusing.proofs.Ordered.{lefts_after, lefts_in_order, rights_after, rights_in_order}

-- ---- the places of a single conjunct

pub single_list : (rs : List Place) (r : BoundTree) → IsFalse (is_and r) → length rs ≡ length (conjuncts r) → (p : Place) × (rs ≡ p ∷ [])
single_list rs r a e = go rs (e ∙ ap length (alone r a))
  where
    go : (rs : List Place) → length rs ≡ 1 → (p : Place) × (rs ≡ p ∷ [])
    go [] e = absurd (omega arith)
    go (p ∷ []) e = (p, refl)
    go (p ∷ q ∷ rs) e = absurd (omega arith)

-- ---- those of two trees

same_split : (xs us ys vs : List Place) → xs ++ ys ≡ us ++ vs → length xs ≡ length us → (xs ≡ us) × (ys ≡ vs)
same_split [] [] ys vs e l = (refl, e)
same_split [] (u ∷ us) ys vs e l = absurd (omega arith)
same_split (x ∷ xs) [] ys vs e l = absurd (omega arith)
same_split (x ∷ xs) (u ∷ us) ys vs e l = let h = same_split xs us ys vs (cc) (omega arith) in let f : x ≡ u = cc in (rw (f, h.0) refl, h.1)

within_both : (xs ys us vs : List Place) → IsWithin xs us → IsWithin ys vs → IsWithin (xs ++ ys) (us ++ vs)
within_both xs ys us vs f g k h = either (λ i. has_first us vs k (f k i)) (λ i. has_second us vs k (g k i)) (has_either xs ys k h)

-- the places of the two children of a tree: those of the second one stand in front
module _ (ps : List Place) {x y r : BoundTree} (b : IsBinary and_also x y r) (count : length ps ≡ length (conjuncts r)) where
  counted : length (conjuncts r) ≡ length (conjuncts x) + length (conjuncts y)
  counted = ap (λ z. length (conjuncts z)) b.1 ∙ length-append (conjuncts x) (conjuncts y)

  abbrev pub seconds : List Place
  seconds = take (length (conjuncts y)) ps

  abbrev pub firsts : List Place
  firsts = drop (length (conjuncts y)) ps

  pub split : (ps ≡ seconds ++ firsts) × (length seconds ≡ length (conjuncts y))
  split = (sym (take-append-drop (length (conjuncts y)) ps), length-take-le (length (conjuncts y)) ps (omega (arith, count, counted)))

  pub firsts_count : length firsts ≡ length (conjuncts x)
  firsts_count = omega (arith, count, counted, ap length split.0, length-append seconds firsts, split.1)

  -- what the children hold
  pub record ChildrenHold (o : Option BoundTree) : Type 0 where
    pub first : Option BoundTree
    pub second : Option BoundTree
    pub on_first : Holds x firsts first
    pub on_second : Holds y seconds second
    pub whole : o ≡ conjoined first second
    pub typed : and_node b.0 x y ≡ and_of x y

  pub children_hold : {o : Option BoundTree} → Holds r ps o → ChildrenHold o
  children_hold held =
      let p = both_places b held in
      let same = same_split p.rights seconds p.lefts firsts (sym p.parts ∙ split.0) (holds_count p.on_right ∙ sym split.1) in
      record {
        first = p.left;
        second = p.right;
        on_first = subst (λ z. Holds x z p.left) same.1 p.on_left;
        on_second = subst (λ z. Holds y z p.right) same.0 p.on_right;
        whole = p.tree;
        typed = sym b.1 ∙ p.whole;
      }

  pub hold_children : (xs ys : List Place) (u v : Option BoundTree) → and_node b.0 x y ≡ and_of x y → Holds x xs u → Holds y ys v → Holds r (ys ++ xs) (conjoined u v)
  hold_children xs ys u v typed f g = subst (λ z. Holds z (ys ++ xs) (conjoined u v)) (sym b.1) (both {t = b.0} typed f g)

-- ---- the children of a right tree

module _ {all back rs mid ls : List Place} {x y r : BoundTree} {at start : ℕ} (b : IsBinary and_also x y r) (s : IsRight all back rs mid ls r at start) where
  abbrev pub right_seconds : List Place
  right_seconds = seconds rs b s.count

  abbrev pub right_firsts : List Place
  right_firsts = firsts rs b s.count

  rights : rs ≡ right_seconds ++ right_firsts
  rights = (split rs b s.count).0

  pub first_right : IsRight all (back ++ right_seconds) right_firsts mid ls x at start
  first_right = record {
    parts = s.parts ∙ (ap (λ z. back ++ (z ++ (mid ++ ls))) rights ∙ (ap (λ z. back ++ z) (append_assoc right_seconds right_firsts (mid ++ ls)) ∙ sym (append_assoc back right_seconds (right_firsts ++ (mid ++ ls)))));
    at_back = s.at_back ∙ ap length (ap (λ z. back ++ z) rights ∙ sym (append_assoc back right_seconds right_firsts));
    at_left = s.at_left ∙ ap length (ap (λ z. back ++ (z ++ mid)) rights ∙ (ap (λ z. back ++ z) (append_assoc right_seconds right_firsts mid) ∙ sym (append_assoc back right_seconds (right_firsts ++ mid))));
    count = firsts_count rs b s.count;
    apart = s.apart;
  }

  module _ {next : List Place} (m : MergedRight next (back ++ right_seconds) right_firsts mid ls x) where
    pub second_right : {middle : ℕ} → middle + length (conjuncts x) ≡ at → IsRight next back right_seconds (m.rights ++ mid) m.lefts y middle start
    second_right at_middle = record {
      parts = m.parts ∙ (append_assoc back right_seconds (m.rights ++ (mid ++ m.lefts)) ∙ ap (λ z. back ++ (right_seconds ++ z)) (sym (append_assoc m.rights mid m.lefts)));
      at_back = omega (arith, at_middle, first_right.at_back, length-append (back ++ right_seconds) right_firsts, firsts_count rs b s.count);
      at_left = omega (arith, first_right.at_left, length-append (back ++ right_seconds) (right_firsts ++ mid), length-append right_firsts mid, m.long, length-append back right_seconds, length-append back (right_seconds ++ (m.rights ++ mid)), length-append right_seconds (m.rights ++ mid), length-append m.rights mid);
      count = (split rs b s.count).1;
      apart = subst (NoPair m.lefts) (sym (append_assoc m.rights mid m.lefts)) m.apart;
    }

    pub both_right : {last : List Place} → MergedRight last back right_seconds (m.rights ++ mid) m.lefts y → MergedRight last back rs mid ls r
    both_right {last = last} n = record {
      rights = n.rights ++ m.rights;
      lefts = n.lefts;
      parts = n.parts ∙ ap (λ z. back ++ z) regroup;
      long = omega (arith, length-append n.rights m.rights, n.long, m.long, ap length rights, length-append right_seconds right_firsts);
      stays = stays;
      rights_within = λ k h. subst (λ z. Has z k) (sym rights) (within_both n.rights m.rights right_seconds right_firsts n.rights_within m.rights_within k h);
      lefts_within = λ k h. m.lefts_within k (n.lefts_within k h);
      apart = subst (NoPair n.lefts) regroup n.apart;
      trees = trees;
    }
      where
        regroup : n.rights ++ ((m.rights ++ mid) ++ n.lefts) ≡ (n.rights ++ m.rights) ++ (mid ++ n.lefts)
        regroup = ap (λ z. n.rights ++ z) (append_assoc m.rights mid n.lefts) ∙ sym (append_assoc n.rights m.rights (mid ++ n.lefts))

        stays : NoPair ls rs → (n.rights ++ m.rights ≡ rs) × (n.lefts ≡ ls)
        stays f =
            let g : NoPair ls (right_seconds ++ right_firsts) = subst (NoPair ls) rights f in
            let one = m.stays (λ k h i. g k h (has_second right_seconds right_firsts (turned k) i)) in
            let two = n.stays (λ k h i. g k (m.lefts_within k h) (has_first right_seconds right_firsts (turned k) i)) in
            (rw (two.0, one.0) (sym rights), two.1 ∙ one.1)

        trees : (l : BoundTree) (u o : Option BoundTree) → Holds r rs o → Holds l ls u → HoldBoth (n.rights ++ m.rights) n.lefts r l (both_merged u o)
        trees l u o on_right on_left =
            let c = children_hold rs b s.count on_right in
            let one = m.trees l u c.first c.on_first on_left in
            let two = n.trees l (both_merged u c.first).0 c.second c.on_second one.1 in
            let same : both_merged u o ≡ rights_after (both_merged u c.first) c.second = ap (both_merged u) c.whole ∙ rights_in_order u c.first c.second in
            subst (HoldBoth (n.rights ++ m.rights) n.lefts r l) (sym same)
            (hold_children rs b s.count m.rights n.rights (both_merged u c.first).1 (both_merged (both_merged u c.first).0 c.second).1 c.typed one.0 two.0, two.1)

-- ---- the children of a left tree

module _ {all back rs mid ls front : List Place} {x y l : BoundTree} {at begin : ℕ} (b : IsBinary and_also x y l) (s : IsLeft all back rs mid ls front l at begin) where
  abbrev pub left_seconds : List Place
  left_seconds = seconds ls b s.count

  abbrev pub left_firsts : List Place
  left_firsts = firsts ls b s.count

  lefts : ls ≡ left_seconds ++ left_firsts
  lefts = (split ls b s.count).0

  left_regroup : (zs : List Place) → mid ++ ((left_seconds ++ zs) ++ front) ≡ (mid ++ left_seconds) ++ (zs ++ front)
  left_regroup zs = ap (λ z. mid ++ z) (append_assoc left_seconds zs front) ∙ sym (append_assoc mid left_seconds (zs ++ front))

  pub first_left : IsLeft all back rs (mid ++ left_seconds) left_firsts front x at begin
  first_left = record {
    parts = s.parts ∙ (ap (λ z. back ++ (rs ++ (mid ++ (z ++ front)))) lefts ∙ ap (λ z. back ++ (rs ++ z)) (left_regroup left_firsts));
    at_right = s.at_right;
    at_back = s.at_back ∙ ap length (ap (λ z. back ++ (rs ++ (mid ++ z))) lefts ∙ ap (λ z. back ++ (rs ++ z)) (sym (append_assoc mid left_seconds left_firsts)));
    count = firsts_count ls b s.count;
    apart = s.apart;
    alone = subst (λ z. NoPair z z) (ap (λ z. mid ++ (z ++ front)) lefts ∙ left_regroup left_firsts) s.alone;
  }

  module _ {next : List Place} (m : MergedLeft next back rs (mid ++ left_seconds) left_firsts front x) where
    within_whole : IsWithin (mid ++ (left_seconds ++ (m.lefts ++ front))) (mid ++ (ls ++ front))
    within_whole = λ k h. subst (λ z. Has z k) (sym (ap (λ z. mid ++ (z ++ front)) lefts ∙ ap (λ z. mid ++ z) (append_assoc left_seconds left_firsts front)))
        (within_both mid (left_seconds ++ (m.lefts ++ front)) mid (left_seconds ++ (left_firsts ++ front)) (λ k i. i)
        (within_both left_seconds (m.lefts ++ front) left_seconds (left_firsts ++ front) (λ k i. i)
        (within_both m.lefts front left_firsts front m.lefts_within (λ k i. i))) k h)

    pub second_left : {middle : ℕ} → middle + length (conjuncts x) ≡ at → IsLeft next back m.rights mid left_seconds (m.lefts ++ front) y middle begin
    second_left at_middle = record {
      parts = m.parts ∙ ap (λ z. back ++ (m.rights ++ z)) (append_assoc mid left_seconds (m.lefts ++ front));
      at_right = s.at_right;
      at_back = omega (arith, at_middle, first_left.at_back, firsts_count ls b s.count, m.long_right, length-append back (rs ++ ((mid ++ left_seconds) ++ left_firsts)), length-append rs ((mid ++ left_seconds) ++ left_firsts), length-append (mid ++ left_seconds) left_firsts, length-append back (m.rights ++ (mid ++ left_seconds)), length-append m.rights (mid ++ left_seconds));
      count = (split ls b s.count).1;
      apart = λ k h i. either (m.apart k h) (λ j. s.apart k (m.rights_within k h) j) (has_either m.lefts front (turned k) i);
      alone = λ k h i. s.alone k (within_whole k h) (within_whole (turned k) i);
    }

    pub both_left : {last : List Place} → MergedLeft last back m.rights mid left_seconds (m.lefts ++ front) y → MergedLeft last back rs mid ls front l
    both_left {last = last} n = record {
      rights = n.rights;
      lefts = n.lefts ++ m.lefts;
      parts = n.parts ∙ ap (λ z. back ++ (n.rights ++ (mid ++ z))) (sym (append_assoc n.lefts m.lefts front));
      long_right = n.long_right ∙ m.long_right;
      long_left = omega (arith, length-append n.lefts m.lefts, n.long_left, m.long_left, ap length lefts, length-append left_seconds left_firsts);
      stays = stays;
      rights_within = λ k h. m.rights_within k (n.rights_within k h);
      lefts_within = λ k h. subst (λ z. Has z k) (sym lefts) (within_both n.lefts m.lefts left_seconds left_firsts n.lefts_within m.lefts_within k h);
      apart = λ k h i. either (n.apart k h) (λ j. m.apart k (n.rights_within k h) j) (has_either n.lefts m.lefts (turned k) i);
      trees = trees;
    }
      where
        stays : NoPair ls rs → (n.rights ≡ rs) × (n.lefts ++ m.lefts ≡ ls)
        stays f =
            let g : NoPair (left_seconds ++ left_firsts) rs = subst (λ z. NoPair z rs) lefts f in
            let one = m.stays (λ k h i. g k (has_second left_seconds left_firsts k h) i) in
            let two = n.stays (λ k h i. g k (has_first left_seconds left_firsts k h) (m.rights_within (turned k) i)) in
            (two.0 ∙ one.0, rw (two.1, one.1) (sym lefts))

        trees : (r : BoundTree) (u o : Option BoundTree) → Holds r rs o → Holds l ls u → HoldBoth n.rights (n.lefts ++ m.lefts) r l (both_merged u o)
        trees r u o on_right on_left =
            let c = children_hold ls b s.count on_left in
            let one = m.trees r c.first o on_right c.on_first in
            let two = n.trees r c.second (both_merged c.first o).1 one.0 c.on_second in
            let same : both_merged u o ≡ lefts_after (both_merged c.first o) c.second = ap (λ z. both_merged z o) c.whole ∙ lefts_in_order c.first c.second o in
            subst (HoldBoth n.rights (n.lefts ++ m.lefts) r l) (sym same)
            (two.0, hold_children ls b s.count m.lefts n.lefts (both_merged c.first o).0 (both_merged c.second (both_merged c.first o).1).0 c.typed one.1 two.1)
