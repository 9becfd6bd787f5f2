-- Two ranges, by their sides and items.
use Rattle.std.proofs.Common.{◌≡◌, ◌≢◌, refl, sym, ap, ◌∙◌}
use Rattle.std.specs.Prelude.{Some}
use Rattle.vx_fn.specs.Views.{is_strict}
use Rattle.vx_tree.specs.Trees.{BoundTree}
use Rattle.vx_tree.specs.Views.{bound_of}
use Rattle.vx_rewrite_fusing.specs.declared.ranges.RangeComparison.{RangeComparison}
use Rattle.vx_rewrite_fusing.specs.declared.ranges.Side.{Side}
use Rattle.vx_rewrite_fusing.specs.declared.ranges.Side.TheVariants.{Below, Above}
use Rattle.vx_rewrite_fusing.specs.Places.{opposite, turned, Bounded}
use Rattle.vx_rewrite_fusing.specs.Conjuncts.{from_above, range_of, between_node, MergeTo, below_and_above, above_and_below, Mergeable}
use Rattle.vx_rewrite_fusing.specs.Finding.{range_from, range_seen}
use Rattle.vx_rewrite_fusing.proofs.Keyed.{between_none, keyed, no_between, seen_key}

pub opposite_twice : (s : Side) → opposite (opposite s) ≡ s
opposite_twice Below = refl
opposite_twice Above = refl

module _ (c d : RangeComparison) (x y : BoundTree) (e : range_of x ≡ Some (range_seen c)) (f : range_of y ≡ Some (range_seen d)) where
  pub other_item : bound_of c.item.now ≢ bound_of d.item.now → Mergeable x y → ⊥
  other_item apart = between_none x y (no_between (range_of x) (range_of y) no_key)
    where
      no_key : (k : Bounded) → keyed (range_of x) ≡ Some (turned k) → keyed (range_of y) ≡ Some k → ⊥
      no_key k g h =
          let one : Some (c.side, bound_of c.item.now) ≡ Some (turned k) = sym (ap keyed e ∙ ap Some (seen_key c.side _ _ _)) ∙ g in
          let two : Some (d.side, bound_of d.item.now) ≡ Some k = sym (ap keyed f ∙ ap Some (seen_key d.side _ _ _)) ∙ h in
          let first : (c.side, bound_of c.item.now) ≡ turned k = cc in
          let second : (d.side, bound_of d.item.now) ≡ k = cc in
          apart (ap (λ (z : Bounded). z.1) first ∙ sym (ap (λ (z : Bounded). z.1) second))

  pub from_the_left : c.side ≡ Below → d.side ≡ Above → bound_of c.item.now ≡ bound_of d.item.now → MergeTo x y (between_node (is_strict c.strict) (is_strict d.strict) (bound_of c.item.now) (bound_of c.bound.now) (bound_of d.bound.now))
  from_the_left p q n = below_and_above (e ∙ ap (λ s. Some (range_from s (is_strict c.strict) (bound_of c.item.now) (bound_of c.bound.now))) p)
      (f ∙ (ap (λ s. Some (range_from s (is_strict d.strict) (bound_of d.item.now) (bound_of d.bound.now))) q ∙ ap (λ z. Some (from_above (is_strict d.strict) z (bound_of d.bound.now))) (sym n)))

  pub from_the_right : c.side ≡ Above → d.side ≡ Below → bound_of c.item.now ≡ bound_of d.item.now → MergeTo x y (between_node (is_strict d.strict) (is_strict c.strict) (bound_of d.item.now) (bound_of d.bound.now) (bound_of c.bound.now))
  from_the_right p q n = above_and_below (e ∙ (ap (λ s. Some (range_from s (is_strict c.strict) (bound_of c.item.now) (bound_of c.bound.now))) p ∙ ap (λ z. Some (from_above (is_strict c.strict) z (bound_of c.bound.now))) n))
      (f ∙ ap (λ s. Some (range_from s (is_strict d.strict) (bound_of d.item.now) (bound_of d.bound.now))) q)

  -- ranges of one item from opposite sides are mergeable
  pub opposite_pair : c.side ≡ opposite d.side → bound_of c.item.now ≡ bound_of d.item.now → Mergeable x y
  opposite_pair sides n = go c.side refl
    where
      other : (s : Side) → c.side ≡ s → d.side ≡ opposite s
      other s p = sym (opposite_twice d.side) ∙ ap opposite (sym sides ∙ p)

      go : (s : Side) → c.side ≡ s → Mergeable x y
      go Below p = (_, from_the_left p (other Below p) n)
      go Above p = (_, from_the_right p (other Above p) n)
