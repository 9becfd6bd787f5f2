-- What is given at a tree is what its number has.
use Rattle.std.proofs.Common.{◌≡◌, ◌≢◌, ℕ, zero, suc, ◌+◌, ◌<◌, ◌≤◌, drop, get_or, arith, List, [], ◌∷◌, length, Bool, true, false, ◌||◌, refl, sym, ap, subst, ◌∙◌, Vec}
use Rattle.std.specs.Prelude.{◌&&◌, Option, None, Some, is_some, cond}
use Rattle.std.specs.Option.{option_map}
use Rattle.indexmap.specs.Layout.{hash_map}
use Rattle.vx_tree.specs.Equality.{equal_bound, equal_bound-Decides, equal_bound_equiv}
use Rattle.vx_tree.specs.Trees.{BoundTree, no_bound, bound}
use Rattle.vx_rewrite_analysis.specs.Answered.{own_given, own_entries, tree_of, trees_of, given_by, hasher_in, map_of_given}
use Rattle.vx_rewrite_analysis.specs.ByNumber.{has_some, HasEach}
use Rattle.vx_rewrite_analysis.specs.Keys.{entry_at}
use Rattle.vx_rewrite_analysis.specs.Numbers.{node_tree, tree_at, HasOneNumberEach}
use Rattle.vx_rewrite_analysis.specs.declared.answered.AnsweredNodes.{AnsweredNodes}
use Rattle.vx_rewrite_analysis.specs.declared.numbers.NumberedNode.{NumberedNode}
use Rattle.vx_rewrite_analysis.proofs.Numbering.{trees-next, trees-end}

-- ---- numbers

-- trees of two numbers differ
apart : (ns : List NumberedNode) → HasOneNumberEach ns → (i j : ℕ) → i < length ns → j < length ns → i ≢ j → equal_bound (tree_at ns i) (tree_at ns j) ≡ false
apart ns one i j h k differ = cases (equal_bound (tree_at ns i) (tree_at ns j)) refl
  where
    cases : (same : Bool) → equal_bound (tree_at ns i) (tree_at ns j) ≡ same → same ≡ false
    cases true e = absurd (differ (one i j h k ((equal_bound-Decides (tree_at ns i) (tree_at ns j)).0 e)))
    cases false e = refl

one-fewer : (n : NumberedNode) (ns : List NumberedNode) → HasOneNumberEach (n ∷ ns) → HasOneNumberEach ns
one-fewer n ns one i j h k same =
    let e : suc i ≡ suc j = one (suc i) (suc j) (omega (arith, h)) (omega (arith, k)) same in
    omega (arith, e)

no-suc : (i : ℕ) → suc i ≢ 0
no-suc i e = absurd (omega (arith, e))

no-zero : (i : ℕ) → 0 ≢ suc i
no-zero i e = absurd (omega (arith, e))

-- ---- what is given

module _ {A Z : Type 0} where
  -- something is given where a number of the tree has something
  pub given-some : (b : BoundTree) (ns : List NumberedNode) (xs : List (Option (Vec A Z))) → is_some (own_given b ns xs) ≡ has_some b ns xs
  given-some b [] xs = refl
  given-some b (n ∷ ns) [] = refl
  given-some b (n ∷ ns) (None ∷ xs) = given-some b ns xs ∙ nothing (equal_bound b (node_tree n)) (has_some b ns xs)
    where
      nothing : (same rest : Bool) → rest ≡ ((same && false) || rest)
      nothing true rest = refl
      nothing false rest = refl
  given-some b (n ∷ ns) (Some own ∷ xs) = chosen (given-some b ns xs) (equal_bound b (node_tree n))
    where
      chosen : is_some (own_given b ns xs) ≡ has_some b ns xs → (same : Bool) → is_some (cond same (Some own.items) (own_given b ns xs)) ≡ ((same && true) || has_some b ns xs)
      chosen rest true = refl
      chosen rest false = rest

  -- what is given at a tree is as P says of what the tree's number has
  pub given-each : (P : BoundTree → Vec A Z → Type 0) (ns : List NumberedNode) (xs : List (Option (Vec A Z))) → HasEach P ns xs → (b : BoundTree) (own : List A) → own_given b ns xs ≡ Some own
      → (v : Vec A Z) × (v.items ≡ own) × P b v
  given-each P [] xs each b own is = cc
  given-each P (n ∷ ns) [] each b own is = cc
  given-each P (n ∷ ns) (None ∷ xs) each b own is = given-each P ns xs (λ i v has. each (suc i) v has) b own is
  given-each P (n ∷ ns) (Some v ∷ xs) each b own is = cases (given-each P ns xs (λ i w there. each (suc i) w there) b own) (equal_bound b (node_tree n)) refl is
    where
      cases : (own_given b ns xs ≡ Some own → (w : Vec A Z) × (w.items ≡ own) × P b w) → (same : Bool) → equal_bound b (node_tree n) ≡ same → cond same (Some v.items) (own_given b ns xs) ≡ Some own
          → (w : Vec A Z) × (w.items ≡ own) × P b w
      cases rest true e has = (v, cc, subst (λ t. P t v) (sym ((equal_bound-Decides b (node_tree n)).0 e)) (each 0 v refl))
      cases rest false e has = rest has

  absent : (b : BoundTree) (ns : List NumberedNode) (xs : List (Option (Vec A Z))) → ((j : ℕ) → j < length ns → equal_bound b (tree_at ns j) ≡ false) → own_given b ns xs ≡ None
  absent b [] xs h = refl
  absent b (n ∷ ns) [] h = refl
  absent b (n ∷ ns) (None ∷ xs) h = absent b ns xs (λ j k. h (suc j) (omega (arith, k)))
  absent b (n ∷ ns) (Some own ∷ xs) h = ap (λ t. cond t (Some own.items) (own_given b ns xs)) (h 0 (omega arith)) ∙ absent b ns xs (λ j k. h (suc j) (omega (arith, k)))

  -- at the tree of a number is given what the number has
  pub given-number : (ns : List NumberedNode) (xs : List (Option (Vec A Z))) (i : ℕ) → HasOneNumberEach ns → i < length ns → length xs ≡ length ns
      → own_given (tree_at ns i) ns xs ≡ option_map (λ own. own.items) (get_or xs i None)
  given-number [] xs i one h count = absurd (omega (arith, h))
  given-number (n ∷ ns) [] i one h count = absurd (omega (arith, count))
  given-number (n ∷ ns) (None ∷ xs) zero one h count = absent (node_tree n) ns xs (λ j k. apart (n ∷ ns) one 0 (suc j) (omega arith) (omega (arith, k)) (no-zero j))
  given-number (n ∷ ns) (Some own ∷ xs) zero one h count = ap (λ t. cond t (Some own.items) (own_given (node_tree n) ns xs)) (equal_bound_equiv.refl (node_tree n))
  given-number (n ∷ ns) (None ∷ xs) (suc i) one h count = given-number ns xs i (one-fewer n ns one) (omega (arith, h)) (omega (arith, count))
  given-number (n ∷ ns) (Some own ∷ xs) (suc i) one h count =
      ap (λ t. cond t (Some own.items) (own_given (tree_at ns i) ns xs)) (apart (n ∷ ns) one (suc i) 0 h (omega arith) (no-suc i))
      ∙ given-number ns xs i (one-fewer n ns one) (omega (arith, h)) (omega (arith, count))

  -- ---- as a map

  entry-given : {X S : Type 0} (value : BoundTree → X) (s : S) (b : BoundTree) (ns : List NumberedNode) (xs : List (Option (Vec A Z)))
      → entry_at b (hash_map (own_entries value ns xs) s 0) ≡ option_map (λ own. value b) (own_given b ns xs)
  entry-given value s b [] xs = refl
  entry-given value s b (n ∷ ns) [] = refl
  entry-given value s b (n ∷ ns) (None ∷ xs) = entry-given value s b ns xs
  entry-given value s b (n ∷ ns) (Some own ∷ xs) = cases (entry-given value s b ns xs) (equal_bound b (node_tree n)) refl
    where
      cases : entry_at b (hash_map (own_entries value ns xs) s 0) ≡ option_map (λ own. value b) (own_given b ns xs) → (same : Bool) → equal_bound b (node_tree n) ≡ same
          → cond same (Some (value (node_tree n))) (entry_at b (hash_map (own_entries value ns xs) s 0)) ≡ option_map (λ own. value b) (cond same (Some own.items) (own_given b ns xs))
      cases rest true e = ap (λ t. Some (value t)) (sym ((equal_bound-Decides b (node_tree n)).0 e))
      cases rest false e = rest

-- the map has an entry where something is given
pub entry-of-given : {A X : Type 0} (value : BoundTree → X) (a : AnsweredNodes A) (b : BoundTree) → entry_at b (map_of_given value a) ≡ option_map (λ own. value b) (given_by a b)
entry-of-given value a b = entry-given value (hasher_in a) b a.nodes.keys a.answers.items

-- ---- the trees of numbers

module _ {A : Type 0} (a : AnsweredNodes A) where
  -- what is left of the numbers at the place i begins with the number there
  pub trees-of-next : (ks : List ℕ) (i : ℕ) → i < length ks → trees_of a (drop i ks) ≡ bound (tree_of a (get_or ks i 0)) (trees_of a (drop (i + 1) ks))
  trees-of-next ks i h = trees-next a.nodes.keys ks i h

  pub trees-of-end : (ks : List ℕ) (i : ℕ) → length ks ≤ i → trees_of a (drop i ks) ≡ no_bound
  trees-of-end ks i h = trees-end a.nodes.keys ks i h
