-- The nodes of a tree, and maps of what they have.
use Rattle.std.proofs.Common.{◌≡◌, ℕ, zero, suc, ◌+◌, ◌<◌, ◌≤◌, get_or, drop, arith, List, [], ◌∷◌, length, Bool, true, false, ◌||◌, refl, sym, ap, subst, inl, inr, ◌∙◌}
use Rattle.std.specs.Prelude.{Option, Some, None, is_some, IfSome, not, cond, ◌&&◌, ◌⊎◌}
use Rattle.std.specs.HashMap.{HashMap}
use Rattle.std.specs.Map.{lookup}
use Rattle.std.proofs.lemmas.List.{at_drop_more, at_drop_all}
use Rattle.vx_tree.specs.Equality.{equal_bound, equal_bound-Decides}
use Rattle.vx_tree.specs.Nodes.{size_of, sizes_of, bound_children_of}
use Rattle.vx_tree.specs.Trees.{BoundTree, scope, node, BoundTrees, no_bound, bound, unbound, unbound_each}
use Rattle.vx_tree.specs.Views.{bound_of, bounds_of}
use Rattle.vx_tree.specs.declared.bound.BoundExpression.{BoundExpression}
use Rattle.vx_tree.specs.declared.exact.ExactBoundExpr.{ExactBoundExpr}
use Rattle.vx_rewrite_analysis.specs.Keys.{key_of, entry_at}
use Rattle.vx_rewrite_analysis.specs.Reached.{is_reached, is_reached_in, nowhere, occurs, occurs_in}

-- ---- truth values

pub or_first : (a b : Bool) → a ≡ true → (a || b) ≡ true
or_first true b h = refl
or_first false b h = cc

pub or_second : (a b : Bool) → b ≡ true → (a || b) ≡ true
or_second true b h = refl
or_second false b h = h

pub or_either : (a b : Bool) → (a || b) ≡ true → (a ≡ true) ⊎ (b ≡ true)
or_either true b h = inl refl
or_either false b h = inr h

pub or_assoc : (a b c : Bool) → ((a || b) || c) ≡ (a || (b || c))
or_assoc true b c = refl
or_assoc false b c = refl

pub or_swap : (a b c : Bool) → (a || (b || c)) ≡ (b || (a || c))
or_swap true true c = refl
or_swap true false c = refl
or_swap false b c = refl

pub or_turn : (a b s : Bool) → ((a || b) || s) ≡ (b || (a || s))
or_turn true true s = refl
or_turn true false s = refl
or_turn false b s = refl

pub and_true : (a b : Bool) → a ≡ true → b ≡ true → (a && b) ≡ true
and_true true b h k = k
and_true false b h k = cc

pub both : (a b : Bool) → (a && b) ≡ true → (a ≡ true) × (b ≡ true)
both true b h = (refl, h)
both false b h = cc

pub or_false : (a : Bool) → (a || false) ≡ a
or_false true = refl
or_false false = refl

-- ---- the children of a node

-- what is left of the children at the place i begins with the child there
pub bounds-next : (ts : List BoundExpression) (i : ℕ) (t : BoundExpression) → i < length ts → t ≡ get_or ts i t → bounds_of (drop i ts) ≡ bound (bound_of t) (bounds_of (drop (i + 1) ts))
bounds-next ts i t h is = at_drop_more bounds_of ts i t h ∙ ap (λ x. bound (bound_of x) (bounds_of (drop (i + 1) ts))) (sym is)

pub bounds-end : (ts : List BoundExpression) (i : ℕ) → length ts ≤ i → bounds_of (drop i ts) ≡ no_bound
bounds-end ts i h = at_drop_all bounds_of ts i h

sizes-within : (ts : List BoundExpression) (i : ℕ) (d : BoundExpression) → i < length ts → size_of (unbound (bound_of (get_or ts i d))) ≤ sizes_of (unbound_each (bounds_of ts))
sizes-within [] i d h = absurd (omega arith)
sizes-within (t ∷ ts) zero d h = omega arith
sizes-within (t ∷ ts) (suc i) d h = omega (arith, sizes-within ts i d (omega arith))

pub sizes-below : (b : BoundTree) → sizes_of (unbound_each (bound_children_of b)) < size_of (unbound b)
sizes-below (scope t) = omega arith
sizes-below (node t f bs) = omega arith

-- a child has fewer nodes
pub child-smaller : (b : BoundTree) (ts : List BoundExpression) (i : ℕ) (t : BoundExpression) → bounds_of ts ≡ bound_children_of b → i < length ts → t ≡ get_or ts i t
    → size_of (unbound (bound_of t)) < size_of (unbound b)
child-smaller b ts i t e h is =
    let here : size_of (unbound (bound_of t)) ≡ size_of (unbound (bound_of (get_or ts i t))) = ap (λ x. size_of (unbound (bound_of x))) is in
    let all : sizes_of (unbound_each (bounds_of ts)) ≡ sizes_of (unbound_each (bound_children_of b)) = ap (λ bs. sizes_of (unbound_each bs)) e in
    omega (arith, sizes-within ts i t h, sizes-below b)

-- ---- the nodes that are reached

module _ (stops : BoundTree → Bool) where
  pub reached-children : (n b : BoundTree) → is_reached stops n b ≡ (equal_bound n b || (not (stops b) && is_reached_in stops n (bound_children_of b)))
  reached-children n (scope t) = nothing (equal_bound n (scope t)) (not (stops (scope t)))
    where
      nothing : (x y : Bool) → x ≡ (x || (y && false))
      nothing true y = refl
      nothing false true = refl
      nothing false false = refl
  reached-children n (node t f bs) = refl

  pub reached-itself : (b : BoundTree) → is_reached stops b b ≡ true
  reached-itself b = reached-children b b ∙ or_first _ (not (stops b) && is_reached_in stops b (bound_children_of b)) ((equal_bound-Decides b b).1 refl)

  -- what is reached from a node that is reached is reached
  mutual
    pub reached-further : (m n b : BoundTree) → is_reached stops n b ≡ true → is_reached stops m n ≡ true → is_reached stops m b ≡ true
    reached-further m n (scope t) h k = subst (λ x. is_reached stops m x ≡ true) ((equal_bound-Decides n (scope t)).0 h) k
    reached-further m n (node t f bs) h k = elim (or_either (equal_bound n (node t f bs)) (not (stops (node t f bs)) && is_reached_in stops n bs) h) [
      | inl e ↦ subst (λ x. is_reached stops m x ≡ true) ((equal_bound-Decides n (node t f bs)).0 e) k
      | inr i ↦ let p = both (not (stops (node t f bs))) (is_reached_in stops n bs) i in
          or_second (equal_bound m (node t f bs)) _ (and_true _ _ p.0 (reached_in-further m n bs p.1 k))
    ]

    pub reached_in-further : (m n : BoundTree) (bs : BoundTrees) → is_reached_in stops n bs ≡ true → is_reached stops m n ≡ true → is_reached_in stops m bs ≡ true
    reached_in-further m n no_bound h k = cc
    reached_in-further m n (bound b bs) h k = elim (or_either (is_reached stops n b) (is_reached_in stops n bs) h) [
      | inl e ↦ or_first _ (is_reached_in stops m bs) (reached-further m n b e k)
      | inr i ↦ or_second (is_reached stops m b) _ (reached_in-further m n bs i k)
    ]

  -- one more child is reached
  pub reached-next : (n : BoundTree) (left rest : BoundTrees) (b : BoundTree) (before after all : Bool) → left ≡ bound b rest
      → after ≡ (is_reached stops n b || before) → (is_reached_in stops n left || before) ≡ all → (is_reached_in stops n rest || after) ≡ all
  reached-next n left rest b before after all next e so_far =
      ap (λ x. is_reached_in stops n rest || x) e ∙ sym (or_turn (is_reached stops n b) (is_reached_in stops n rest) before)
      ∙ sym (ap (λ bs. is_reached_in stops n bs || before) next) ∙ so_far

  -- all children are reached
  pub reached-end : (n : BoundTree) (left : BoundTrees) (last all : Bool) → left ≡ no_bound → (is_reached_in stops n left || last) ≡ all → last ≡ all
  reached-end n left last all none so_far = ap (λ bs. is_reached_in stops n bs || last) (sym none) ∙ so_far

-- a node of one of the trees is one of them all
occurs-at : (ts : List BoundExpression) (i : ℕ) (d : BoundExpression) → i < length ts → (n : BoundTree) → occurs n (bound_of (get_or ts i d)) ≡ true → occurs_in n (bounds_of ts) ≡ true
occurs-at [] i d h n there = absurd (omega arith)
occurs-at (t ∷ ts) zero d h n there = or_first _ (occurs_in n (bounds_of ts)) there
occurs-at (t ∷ ts) (suc i) d h n there = or_second (occurs n (bound_of t)) _ (occurs-at ts i d (omega arith) n there)

-- a node of a child is one of the tree
pub occurs-child : (b : BoundTree) (ts : List BoundExpression) (i : ℕ) (t : BoundExpression) → bounds_of ts ≡ bound_children_of b → i < length ts → t ≡ get_or ts i t
    → (n : BoundTree) → occurs n (bound_of t) ≡ true → occurs n b ≡ true
occurs-child b ts i t e h is n there =
    let below : occurs_in n (bounds_of ts) ≡ true = occurs-at ts i t h n (subst (λ x. occurs n (bound_of x) ≡ true) is there) in
    reached-children nowhere n b ∙ or_second (equal_bound n b) _ (sym (ap (occurs_in n) e) ∙ below)

-- ---- a map without entries

pub entry-of-none : {X S : Type 0} (b : BoundTree) (m : HashMap ExactBoundExpr X S) → m.entries ≡ [] → entry_at b m ≡ None
entry-of-none b m empty = ap (lookup (λ k. equal_bound b (key_of k))) empty

pub entries-of-none : {X S : Type 0} (P : BoundTree → X → Type 0) (m : HashMap ExactBoundExpr X S) → m.entries ≡ [] → (k : ExactBoundExpr) → IfSome (entry_at (key_of k) m) (P (key_of k))
entries-of-none P m empty k = subst (λ o. IfSome o (P (key_of k))) (sym (entry-of-none (key_of k) m empty)) tt

-- what is reached has entries beside none
pub nodes-of-none : {X S : Type 0} (here : Bool) (k : ExactBoundExpr) (m : HashMap ExactBoundExpr X S) → m.entries ≡ [] → (here || is_some (entry_at (key_of k) m)) ≡ here
nodes-of-none here k m empty = ap (λ o. here || is_some o) (entry-of-none (key_of k) m empty) ∙ or_false here

-- ---- what is said of each entry

module _ {X S : Type 0} (P : BoundTree → X → Type 0) where
  -- what is said of each entry is said of one more
  pub entries-with : (b : BoundTree) (x : X) (old new : HashMap ExactBoundExpr X S) → P b x
      → ((k : ExactBoundExpr) → entry_at (key_of k) new ≡ cond (equal_bound b (key_of k)) (Some x) (entry_at (key_of k) old))
      → ((k : ExactBoundExpr) → IfSome (entry_at (key_of k) old) (P (key_of k))) → (k : ExactBoundExpr) → IfSome (entry_at (key_of k) new) (P (key_of k))
  entries-with b x old new here put was k = subst (λ o. IfSome o (P (key_of k))) (sym (put k)) (cases (equal_bound b (key_of k)) refl)
    where
      cases : (same : Bool) → equal_bound b (key_of k) ≡ same → IfSome (cond same (Some x) (entry_at (key_of k) old)) (P (key_of k))
      cases true e = subst (λ n. P n x) ((equal_bound-Decides b (key_of k)).0 e) here
      cases false e = was k

  -- and of one more, if it is one
  pub entries-if : (b : BoundTree) (o : Option X) (old new : HashMap ExactBoundExpr X S) → ((x : X) → o ≡ Some x → P b x)
      → ((k : ExactBoundExpr) → entry_at (key_of k) new ≡ cond (is_some o && equal_bound b (key_of k)) o (entry_at (key_of k) old))
      → ((k : ExactBoundExpr) → IfSome (entry_at (key_of k) old) (P (key_of k))) → (k : ExactBoundExpr) → IfSome (entry_at (key_of k) new) (P (key_of k))
  entries-if b (Some x) old new here put was = entries-with b x old new (here x refl) put was
  entries-if b None old new here put was = λ k. subst (λ e. IfSome e (P (key_of k))) (sym (put k)) (was k)
