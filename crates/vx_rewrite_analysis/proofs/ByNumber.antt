-- What numbered nodes have, by number.
use Rattle.std.proofs.Common.{◌≡◌, ℕ, zero, suc, ◌<◌, get_or, arith, List, [], ◌∷◌, length, Bool, true, false, ◌||◌, refl, sym, ap, subst, inl, inr, ◌∙◌}
use Rattle.std.specs.Prelude.{◌⊎◌, ◌&&◌, Option, None, Some, is_some}
use Rattle.std.proofs.Math.ListN.{set}
use Rattle.vx_tree.specs.Equality.{equal_bound, equal_bound-Decides, equal_bound_equiv}
use Rattle.vx_tree.specs.Trees.{BoundTree}
use Rattle.vx_rewrite_analysis.specs.ByNumber.{has_some, HasEach}
use Rattle.vx_rewrite_analysis.specs.Numbers.{node_tree, tree_at, HasOneNumberEach}
use Rattle.vx_rewrite_analysis.specs.declared.numbers.NumberedNode.{NumberedNode}
use Rattle.vx_rewrite_analysis.proofs.Subtrees.{or_first, or_second, or_swap, or_either, and_true, both}

-- ---- which trees have something

module _ {X : Type 0} where
  -- where no number has something, no tree has
  pub has-none : (k : BoundTree) (ns : List NumberedNode) (xs : List (Option X)) → ((i : ℕ) → get_or xs i None ≡ None) → has_some k ns xs ≡ false
  has-none k [] xs none = refl
  has-none k (n ∷ ns) [] none = refl
  has-none k (n ∷ ns) (x ∷ xs) none =
      ap (λ o. (equal_bound k (node_tree n) && is_some o) || has_some k ns xs) (none 0) ∙ nothing (equal_bound k (node_tree n)) (has_some k ns xs) ∙ has-none k ns xs (λ i. none (suc i))
    where
      nothing : (a b : Bool) → ((a && false) || b) ≡ b
      nothing true b = refl
      nothing false b = refl

  -- once a number has something, its tree has
  pub has-set : (k : BoundTree) (ns : List NumberedNode) (xs : List (Option X)) (i : ℕ) (x : X) → i < length ns → length xs ≡ length ns
      → has_some k ns (set xs i (Some x)) ≡ (equal_bound k (tree_at ns i) || has_some k ns xs)
  has-set k [] xs i x h count = absurd (omega (arith, h))
  has-set k (n ∷ ns) [] i x h count = absurd (omega (arith, count))
  has-set k (n ∷ ns) (o ∷ xs) zero x h count = here (equal_bound k (node_tree n)) (is_some o) (has_some k ns xs)
    where
      here : (a b c : Bool) → ((a && true) || c) ≡ (a || ((a && b) || c))
      here true b c = refl
      here false b c = refl
  has-set k (n ∷ ns) (o ∷ xs) (suc i) x h count =
      ap (λ r. (equal_bound k (node_tree n) && is_some o) || r) (has-set k ns xs i x (omega (arith, h)) (omega (arith, count)))
      ∙ or_swap (equal_bound k (node_tree n) && is_some o) (equal_bound k (tree_at ns i)) (has_some k ns xs)

  -- a number that has something, once one more has, had it before or is that one
  pub some-set : (xs : List (Option X)) (i j : ℕ) (o : Option X) → is_some (get_or (set xs i o) j None) ≡ true → (is_some (get_or xs j None) ≡ true) ⊎ (j ≡ i)
  some-set [] i j o h = inl h
  some-set (x ∷ xs) zero zero o h = inr refl
  some-set (x ∷ xs) zero (suc j) o h = inl h
  some-set (x ∷ xs) (suc i) zero o h = inl h
  some-set (x ∷ xs) (suc i) (suc j) o h = elim (some-set xs i j o h) [
    | inl before ↦ inl before
    | inr same ↦ inr (ap suc same)
  ]

  -- what each number has is of its tree, where that of one more is
  pub each-set : (P : BoundTree → X → Type 0) (ns : List NumberedNode) (xs : List (Option X)) (i : ℕ) (x : X) → P (tree_at ns i) x → HasEach P ns xs → HasEach P ns (set xs i (Some x))
  each-set P ns xs i x here each j y has = elim (which xs i j has) [
    | inl before ↦ each j y before
    | inr last ↦ subst (λ k. P (tree_at ns k) y) (sym last.0) (subst (P (tree_at ns i)) last.1 here)
  ]
    where
      which : (os : List (Option X)) (i j : ℕ) → get_or (set os i (Some x)) j None ≡ Some y → (get_or os j None ≡ Some y) ⊎ ((j ≡ i) × (x ≡ y))
      which [] i j has = inl has
      which (o ∷ os) zero zero has = inr (refl, cc)
      which (o ∷ os) zero (suc j) has = inl has
      which (o ∷ os) (suc i) zero has = inl has
      which (o ∷ os) (suc i) (suc j) has = elim (which os i j has) [
        | inl before ↦ inl before
        | inr last ↦ inr (ap suc last.0, last.1)
      ]

  -- a tree that has something has a number that has it
  has-found : (k : BoundTree) (ns : List NumberedNode) (xs : List (Option X)) → has_some k ns xs ≡ true → (j : ℕ) × (j < length ns) × (equal_bound k (tree_at ns j) ≡ true) × (is_some (get_or xs j None) ≡ true)
  has-found k [] xs h = cc
  has-found k (n ∷ ns) [] h = cc
  has-found k (n ∷ ns) (x ∷ xs) h = elim (or_either (equal_bound k (node_tree n) && is_some x) (has_some k ns xs) h) [
    | inl here ↦ let p = both (equal_bound k (node_tree n)) (is_some x) here in (0, omega arith, p.0, p.1)
    | inr there ↦ let f = has-found k ns xs there in (suc f.0, omega (arith, f.1), f.2, f.3)
  ]

  -- where no tree has two numbers, the number of a tree that has something has it
  pub has-at : (ns : List NumberedNode) → HasOneNumberEach ns → (xs : List (Option X)) (i : ℕ) → i < length ns → has_some (tree_at ns i) ns xs ≡ true → is_some (get_or xs i None) ≡ true
  has-at ns one xs i h there =
      let f = has-found (tree_at ns i) ns xs there in
      let same : i ≡ f.0 = one i f.0 h f.1 ((equal_bound-Decides (tree_at ns i) (tree_at ns f.0)).0 f.2) in
      ap (λ k. is_some (get_or xs k None)) same ∙ f.3

  -- the tree of a number that has something has it
  pub has-read : (ns : List NumberedNode) (xs : List (Option X)) (i : ℕ) → i < length ns → is_some (get_or xs i None) ≡ true → has_some (tree_at ns i) ns xs ≡ true
  has-read [] xs i h there = absurd (omega (arith, h))
  has-read (n ∷ ns) [] i h there = cc
  has-read (n ∷ ns) (x ∷ xs) zero h there = or_first _ (has_some (node_tree n) ns xs) (and_true _ _ (equal_bound_equiv.refl (node_tree n)) there)
  has-read (n ∷ ns) (x ∷ xs) (suc i) h there = or_second (equal_bound (tree_at ns i) (node_tree n) && is_some x) _ (has-read ns xs i (omega (arith, h)) there)

-- where the same numbers have something, the same trees have
pub has-same : {X Y : Type 0} (k : BoundTree) (ns : List NumberedNode) (xs : List (Option X)) (ys : List (Option Y)) → length xs ≡ length ys
    → ((i : ℕ) → i < length xs → is_some (get_or xs i None) ≡ is_some (get_or ys i None)) → has_some k ns xs ≡ has_some k ns ys
has-same k [] xs ys count same = refl
has-same k (n ∷ ns) [] [] count same = refl
has-same k (n ∷ ns) [] (y ∷ ys) count same = absurd (omega (arith, count))
has-same k (n ∷ ns) (x ∷ xs) [] count same = absurd (omega (arith, count))
has-same k (n ∷ ns) (x ∷ xs) (y ∷ ys) count same =
    ap (λ b. (equal_bound k (node_tree n) && b) || has_some k ns xs) (same 0 (omega arith))
    ∙ ap (λ r. (equal_bound k (node_tree n) && is_some y) || r) (has-same k ns xs ys (omega (arith, count)) (λ i h. same (suc i) (omega (arith, h))))
