-- The pairs of each And of a conjunction merged: first below it, then its own.
use Rattle.std.proofs.Common.{◌≡◌, ℕ, List, [], ◌∷◌, ◌++◌, length, refl, sym, subst, ap, ◌∙◌, false, append_assoc}
use Rattle.std.specs.Prelude.{Option, Some, None, option_map}
use Rattle.std.proofs.lemmas.List.{append-nil}
use Rattle.vx_fn.specs.Functions.{and_also}
use Rattle.vx_tree.specs.Trees.{BoundTree, bound, no_bound, node_type, WellTyped}
use Rattle.vx_value.specs.Types.{LogicalType}
use Rattle.vx_rewrite_fusing.specs.declared.places.Place.{Place}
use Rattle.vx_rewrite_fusing.specs.declared.ranges.RangeComparison.{RangeComparison}
use Rattle.vx_rewrite_fusing.specs.Conjuncts.{and_node, and_of, is_and, range_of, conjoined, Fused, IsBinary}
use Rattle.vx_rewrite_fusing.specs.Finding.{range_seen, more_fused, none_fused, ConjunctsFused}
use Rattle.vx_rewrite_fusing.specs.Merging.{IsFusedOf}
use Rattle.vx_rewrite_fusing.specs.Places.{turned, has_merged, Holds, both, IsPlaceOf, IsWithin, NoPair}
use Rattle.vx_rewrite_fusing.specs.Sides.{both_merged, merged_with, HoldBoth, IsLeft, IsRight, MergedLeft, MergedRight, TreeMerged}
use Rattle.vx_rewrite_fusing.proofs.Ands.{AndParts, and_parts_of, typed_and}
use Rattle.vx_rewrite_fusing.proofs.Apart.{conjunct_fused}
use Rattle.vx_rewrite_fusing.proofs.Children.{IsFusedBelow, already_fused, itself_fused, over_fused, then_fused}
use Rattle.vx_rewrite_fusing.proofs.Holding.{fused_no_pair, has_first, has_second, holds_count, merged_append, no_pair_across, no_pair_joined, noted_single}
use Rattle.vx_rewrite_fusing.proofs.Merges.{fused_stays, merges_alike}
use Rattle.vx_rewrite_fusing.proofs.Ordered.{Takes, takes_merged, takes_none, takes_some}
use Rattle.vx_rewrite_fusing.proofs.Pairing.{whole_or, fused_root, merged_root}

-- ---- an And over what its children became

-- the And of two trees of the same types is typed alike
pub typed_alike : (t : LogicalType) (l r l' r' : BoundTree) → WellTyped (and_node t l r) → node_type l' ≡ node_type l → node_type r' ≡ node_type r → and_node t l' r' ≡ and_of l' r'
typed_alike t l r l' r' w e f = ap (λ z. and_node z l' r') ((and_parts_of t l r w).type ∙ rw (e, f) refl)

pub fused_sides : {l r b : BoundTree} → IsBinary and_also l r b → Fused b → Fused l × Fused r
fused_sides {l = l} {r = r} p fused = go (subst Fused p.1 fused)
  where
    go : Fused (and_node p.0 l r) → Fused l × Fused r
    go h = (h.1.0, h.1.1.0)

pub typed_sides : {l r b : BoundTree} → IsBinary and_also l r b → WellTyped b → WellTyped l × WellTyped r
typed_sides {l = l} {r = r} p w = let q = and_parts_of p.0 l r (subst WellTyped p.1 w) in (q.left, q.right)

-- what is merged at an And over what its children became
and_fused : {l r b u v w : BoundTree} {rest : Option BoundTree} (p : IsBinary and_also l r b) → WellTyped b → IsFusedOf l u → IsFusedOf r v → Takes u v w rest → IsFusedOf b (whole_or w rest)
and_fused {l = l} {r = r} {b = b} {u = u} {v = v} {w = w} {rest = rest} p wb f g takes = subst (λ z. IsFusedOf z (whole_or w rest)) (sym p.1) (go takes)
  where
    typed : WellTyped (and_node p.0 l r)
    typed = subst WellTyped p.1 wb

    below_it : IsFusedBelow (and_node p.0 l r) (and_node p.0 u v)
    below_it = over_fused (and_node p.0 l r) (bound u (bound v no_bound)) typed (more_fused f (more_fused g none_fused))

    parts : AndParts p.0 l r
    parts = and_parts_of p.0 l r typed

    same : and_node p.0 u v ≡ and_of u v
    same = typed_alike p.0 l r u v typed (merges_alike l u f.count parts.left f.merges).1 (merges_alike r v g.count parts.right g.merges).1

    go : {w : BoundTree} {rest : Option BoundTree} → Takes u v w rest → IsFusedOf (and_node p.0 l r) (whole_or w rest)
    go (takes_none none) = subst (IsFusedOf (and_node p.0 l r)) same (already_fused below_it (fused_root (p.0, refl) below_it.fused none))
    go (takes_some q) = then_fused below_it (merged_root (p.0, refl) below_it.fused q refl)

-- ---- a single conjunct

pub one_merged : {all back : List Place} (b : BoundTree) (o : Option RangeComparison) (p : Place) → ConjunctsFused b → is_and b ≡ false → option_map range_seen o ≡ range_of b → all ≡ back ++ p ∷ [] → IsPlaceOf o p → TreeMerged all back b
one_merged b o p f a e parts is =
    let noted = noted_single b o p a e is in
    let fused = conjunct_fused b a f in
    record {
      places = p ∷ [];
      tree = b;
      parts = parts;
      holds = noted.0;
      fused = itself_fused b fused;
      stays = λ g. noted.1;
      apart = fused_no_pair noted.0 fused;
    }

-- ---- an And

-- the conjuncts of both children are noted, and the pairs of each are merged
module _ {all middle back : List Place} {l r b : BoundTree} (p : IsBinary and_also l r b) (typed : WellTyped b) (m : TreeMerged middle back r) (n : TreeMerged all middle l) where
  both_parts : all ≡ back ++ (m.places ++ n.places)
  both_parts = n.parts ∙ (ap (λ z. z ++ n.places) m.parts ∙ append_assoc back m.places n.places)

  pub right_stands : {start : ℕ} → start ≡ length middle → IsRight all back m.places [] n.places r start start
  right_stands e = record {
    parts = both_parts;
    at_back = e ∙ ap length m.parts;
    at_left = e ∙ ap length (m.parts ∙ ap (λ z. back ++ z) (sym (append-nil m.places)));
    count = holds_count m.holds;
    apart = n.apart;
  }

  pub left_stands : {begin end : ℕ} → begin ≡ length back → end ≡ length all → IsLeft all back m.places [] n.places [] l end begin
  left_stands e f = record {
    parts = both_parts ∙ ap (λ z. back ++ (m.places ++ z)) (sym (append-nil n.places));
    at_right = e;
    at_back = f ∙ ap length both_parts;
    count = holds_count n.holds;
    apart = λ k h i. elim i [ ];
    alone = subst (λ z. NoPair z z) (sym (append-nil n.places)) n.apart;
  }

  -- the pairs of the And are merged
  record PairsTaken (last : List Place) : Type 0 where
    rights : List Place
    lefts : List Place
    parts : last ≡ back ++ (rights ++ lefts)
    stays : NoPair n.places m.places → (rights ≡ m.places) × (lefts ≡ n.places)
    rights_within : IsWithin rights m.places
    apart : NoPair lefts (rights ++ lefts)
    trees : HoldBoth rights lefts r l (both_merged (Some n.tree) (Some m.tree))

  whole_joined : (w : BoundTree) (rest : Option BoundTree) → conjoined (Some w) rest ≡ Some (whole_or w rest)
  whole_joined w None = refl
  whole_joined w (Some r) = refl

  and_merged : {last : List Place} → PairsTaken last → TreeMerged last back b
  and_merged {last = last} t = record {
    places = t.rights ++ t.lefts;
    tree = whole;
    parts = t.parts;
    holds = subst (λ z. Holds z (t.rights ++ t.lefts) (Some whole)) (sym p.1) (subst (Holds (and_node p.0 l r) (t.rights ++ t.lefts)) (whole_joined w rest) (both {t = p.0} same t.trees.1 t.trees.0));
    fused = and_fused p typed n.fused m.fused (takes_merged n.tree m.tree right_typed);
    stays = stays;
    apart = no_pair_joined t.rights t.lefts (λ k h i. m.apart k (t.rights_within k h) (t.rights_within (turned k) i)) t.apart;
  }
    where
      sides : WellTyped l × WellTyped r
      sides = typed_sides p typed

      right_typed : WellTyped m.tree
      right_typed = (merges_alike r m.tree m.fused.count sides.1 m.fused.merges).0.typed_after

      w : BoundTree
      w = (merged_with n.tree m.tree).0

      rest : Option BoundTree
      rest = (merged_with n.tree m.tree).1

      whole : BoundTree
      whole = whole_or w rest

      same : and_node p.0 l r ≡ and_of l r
      same = typed_and p.0 l r (subst WellTyped p.1 typed)

      stays : Fused b → has_merged (t.rights ++ t.lefts) ≡ false
      stays f =
          let parts = fused_sides p f in
          let on_left : Holds l n.places (Some l) = subst (λ z. Holds l n.places (Some z)) (fused_stays l n.tree n.fused.count parts.0 n.fused.merges) n.holds in
          let on_right : Holds r m.places (Some r) = subst (λ z. Holds r m.places (Some z)) (fused_stays r m.tree m.fused.count parts.1 m.fused.merges) m.holds in
          let whole : Holds b (m.places ++ n.places) (Some b) = subst (λ z. Holds b (m.places ++ n.places) (Some z)) (sym (p.1 ∙ same)) (subst (λ z. Holds z (m.places ++ n.places) (Some (and_of l r))) (sym p.1) (both {t = p.0} same on_left on_right)) in
          let none = fused_no_pair whole f in
          let kept = t.stays (λ k h i. none k (has_second m.places n.places k h) (has_first m.places n.places (turned k) i)) in
          rw (kept.0, kept.1) (merged_append m.places n.places ∙ rw (m.stays parts.1, n.stays parts.0) refl)

  pub merged_by_rights : {last : List Place} → MergedRight last back m.places [] n.places r → TreeMerged last back b
  merged_by_rights q = and_merged (record {
    rights = q.rights;
    lefts = q.lefts;
    parts = q.parts;
    stays = q.stays;
    rights_within = q.rights_within;
    apart = q.apart;
    trees = q.trees l (Some n.tree) (Some m.tree) m.holds n.holds;
  })

  pub merged_by_lefts : {last : List Place} → MergedLeft last back m.places [] n.places [] l → TreeMerged last back b
  merged_by_lefts q = and_merged (record {
    rights = q.rights;
    lefts = q.lefts;
    parts = q.parts ∙ ap (λ z. back ++ (q.rights ++ z)) (append-nil q.lefts);
    stays = q.stays;
    rights_within = q.rights_within;
    apart = no_pair_across q.rights q.lefts q.apart (λ k h i. n.apart k (q.lefts_within k h) (q.lefts_within (turned k) i));
    trees = q.trees r (Some n.tree) (Some m.tree) m.holds n.holds;
  })
