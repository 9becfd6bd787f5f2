-- Merges of children are merges of the node, and merges follow one another.
use Rattle.std.proofs.Common.{◌≡◌, ℕ, zero, suc, ◌+◌, ◌<◌, ◌≤◌, List, [], ◌∷◌, ◌++◌, length, get_or, take, drop, refl, sym, ap, subst, ◌∙◌, arith}
use Rattle.std.specs.Prelude.{Option, Some, None, Ok, MatchOption}
use Rattle.std.specs.declared.alloc.Global.{Global}
use Rattle.std.specs.declared.boxed.Box.{Box}
use Rattle.std.proofs.lemmas.List.{take_more}
use Rattle.vx_value.specs.Types.{LogicalType}
use Rattle.vx_fn.specs.Functions.{Function, and_also, binary, fn_type}
use Rattle.vx_tree.specs.Trees.{BoundTree, scope, node, BoundTrees, no_bound, bound, unbound, unbound_each, node_types, WellTyped, EachWellTyped}
use Rattle.vx_tree.specs.Nodes.{bound_children_of, size_of, sizes_of}
use Rattle.vx_tree.specs.Views.{bound_of, bounds_of}
use Rattle.vx_tree.specs.declared.bound.BoundExpression.{BoundExpression}
use Rattle.vx_rewrite_core.specs.Steps.{below, OneStep, this_one, later_one, no_step, one_more}
use Rattle.vx_rewrite_core.proofs.Stepping.{one_step_keeps}
use Rattle.vx_rewrite_core.proofs.Keeping.{each_typed_after}
use Rattle.vx_rewrite_fusing.specs.Conjuncts.{and_node, Fused, EachFused, FusedBelow}
use Rattle.vx_rewrite_fusing.specs.Merging.{MergeAt, Merges, IsFusedOf}
use Rattle.vx_rewrite_fusing.specs.Finding.{EachFusedOf, none_fused, more_fused, over_children, Finds, FirstChanged}
use Rattle.vx_rewrite_fusing.proofs.Merges.{merge_keeps, one_step_types}

pub merges_append : {b u w : BoundTree} {n k : ℕ} → Merges b n u → Merges u k w → (m : ℕ) × Merges b m w
merges_append {k = k} no_step q = (k, q)
merges_append (one_more s r) q = let p = merges_append r q in (suc p.0, one_more s p.1)

-- ---- merges of a list of children

data ListSteps : BoundTrees → ℕ → BoundTrees → Type 0 where
  no_list_step : {bs : BoundTrees} → ListSteps bs zero bs
  one_list_step : {bs cs us : BoundTrees} {n : ℕ} → OneStep MergeAt bs cs → ListSteps cs n us → ListSteps bs (suc n) us

first_steps : {b u : BoundTree} {n : ℕ} (bs : BoundTrees) → Merges b n u → ListSteps (bound b bs) n (bound u bs)
first_steps bs no_step = no_list_step
first_steps bs (one_more s r) = one_list_step (this_one s) (first_steps bs r)

later_steps : {bs us : BoundTrees} {n : ℕ} (b : BoundTree) → ListSteps bs n us → ListSteps (bound b bs) n (bound b us)
later_steps b no_list_step = no_list_step
later_steps b (one_list_step s r) = one_list_step (later_one s) (later_steps b r)

list_append : {bs cs us : BoundTrees} {n k : ℕ} → ListSteps bs n cs → ListSteps cs k us → (m : ℕ) × ListSteps bs m us
list_append {k = k} no_list_step q = (k, q)
list_append (one_list_step s r) q = let p = list_append r q in (suc p.0, one_list_step s p.1)

each_steps : {bs us : BoundTrees} → EachFusedOf bs us → (n : ℕ) × ListSteps bs n us
each_steps none_fused = (zero, no_list_step)
each_steps (more_fused {u = u} {bs = bs} f fs) = let p = each_steps fs in list_append (first_steps bs f.merges) (later_steps u p.1)

each_is_fused : {bs us : BoundTrees} → EachFusedOf bs us → EachFused us
each_is_fused none_fused = tt
each_is_fused (more_fused f fs) = (f.fused, each_is_fused fs)

node_steps : {bs us : BoundTrees} {n : ℕ} (t : LogicalType) (f : Function) → ListSteps bs n us → fn_type f (node_types bs) ≡ Ok t → EachWellTyped bs → Merges (node t f bs) n (node t f us)
node_steps t f no_list_step e w = no_step
node_steps t f (one_list_step {cs = cs} s r) e w =
    let again : fn_type f (node_types cs) ≡ Ok t = ap (fn_type f) (one_step_types s w) ∙ e in
    one_more (below s again) (node_steps t f r again (each_typed_after (one_step_keeps MergeAt merge_keeps s w)))

-- merges of the two children of an And are merges of the And
pub both_steps : {l l' r r' : BoundTree} {n k : ℕ} (t : LogicalType) → WellTyped (and_node t l r) → Merges l n l' → Merges r k r' → (m : ℕ) × Merges (and_node t l r) m (and_node t l' r')
both_steps {l' = l'} {r = r} t w p q =
    let steps = list_append (first_steps (bound r no_bound) p) (later_steps l' (first_steps no_bound q)) in
    (steps.0, node_steps t (binary and_also) steps.1 w.0 w.2)

-- ---- a node over fused children

-- a node whose children are merged is reached by merges, and no pair is left below it
pub record IsFusedBelow (b u : BoundTree) : Type 0 where
  pub count : ℕ
  pub merges : Merges b count u
  pub fused : FusedBelow u

pub over_fused : (b : BoundTree) (us : BoundTrees) → WellTyped b → EachFusedOf (bound_children_of b) us → IsFusedBelow b (over_children b us)
over_fused (scope t) us w fs = record { count = zero; merges = no_step; fused = tt }
over_fused (node t f bs) us w fs = let p = each_steps fs in record { count = p.0; merges = node_steps t f p.1 w.0 w.2; fused = each_is_fused fs }

pub then_fused : {b u w : BoundTree} → IsFusedBelow b u → IsFusedOf u w → IsFusedOf b w
then_fused p q = let m = merges_append p.merges q.merges in record { count = m.0; merges = m.1; fused = q.fused }

pub already_fused : {b u : BoundTree} → IsFusedBelow b u → Fused u → IsFusedOf b u
already_fused p f = record { count = p.count; merges = p.merges; fused = f }

pub children_fused : (b : BoundTree) → EachFused (bound_children_of b) → FusedBelow b
children_fused (scope t) f = tt
children_fused (node t g bs) f = f

pub fused_children : (b : BoundTree) → Fused b → EachFused (bound_children_of b)
fused_children (scope t) f = tt
fused_children (node t g bs) f = f.1

-- ---- children one after another

-- the trees of the second list behind those of the first
abbrev pub with_more : BoundTrees → BoundTrees → BoundTrees
with_more no_bound cs = cs
with_more (bound b bs) cs = bound b (with_more bs cs)

pub bounds_of-append : (xs ys : List BoundExpression) → bounds_of (xs ++ ys) ≡ with_more (bounds_of xs) (bounds_of ys)
bounds_of-append [] ys = refl
bounds_of-append (x ∷ xs) ys = ap (bound (bound_of x)) (bounds_of-append xs ys)

pub bounds_of-front : (xs ys zs : List BoundExpression) → bounds_of xs ≡ bounds_of ys → bounds_of (xs ++ zs) ≡ bounds_of (ys ++ zs)
bounds_of-front xs ys zs e = bounds_of-append xs zs ∙ ap (λ bs. with_more bs (bounds_of zs)) e ∙ sym (bounds_of-append ys zs)

pub bounds_of-take_more : (bs : List BoundExpression) (i : ℕ) (b : BoundExpression) → i < length bs → b ≡ get_or bs i b → bounds_of (take (i + 1) bs) ≡ with_more (bounds_of (take i bs)) (bound (bound_of b) no_bound)
bounds_of-take_more bs i b h e =
    ap bounds_of (take_more bs i b h) ∙ bounds_of-append (take i bs) (get_or bs i b ∷ []) ∙ ap (λ x. with_more (bounds_of (take i bs)) (bound (bound_of x) no_bound)) (sym e)

pub all_fused : (bs : BoundTrees) (c : BoundTree) → EachFused bs → Fused c → EachFused (with_more bs (bound c no_bound))
all_fused no_bound c f g = (g, tt)
all_fused (bound b bs) c f g = (f.0, all_fused bs c f.1 g)

pub each_joined : {bs us : BoundTrees} {c w : BoundTree} → EachFusedOf bs us → IsFusedOf c w → EachFusedOf (with_more bs (bound c no_bound)) (with_more us (bound w no_bound))
each_joined none_fused g = more_fused g none_fused
each_joined (more_fused f fs) g = more_fused f (each_joined fs g)

pub itself_fused : (b : BoundTree) → Fused b → IsFusedOf b b
itself_fused b f = record { count = zero; merges = no_step; fused = f }

pub item_fused : (bs : List BoundExpression) (i : ℕ) (b : BoundExpression) → i < length bs → b ≡ get_or bs i b → EachFused (bounds_of bs) → Fused (bound_of b)
item_fused [] i b h e f = absurd (omega arith)
item_fused (c ∷ bs) zero b h e f = subst (λ x. Fused (bound_of x)) (sym e) f.0
item_fused (c ∷ bs) (suc i) b h e f = item_fused bs i b (omega arith) e f.1

pub item_typed : (bs : List BoundExpression) (i : ℕ) (b : BoundExpression) → i < length bs → b ≡ get_or bs i b → EachWellTyped (bounds_of bs) → WellTyped (bound_of b)
item_typed [] i b h e w = absurd (omega arith)
item_typed (c ∷ bs) zero b h e w = subst (λ x. WellTyped (bound_of x)) (sym e) w.0
item_typed (c ∷ bs) (suc i) b h e w = item_typed bs i b (omega arith) e w.1

pub item_smaller : (bs : List BoundExpression) (i : ℕ) (b : BoundExpression) → i < length bs → b ≡ get_or bs i b → size_of (unbound (bound_of b)) ≤ sizes_of (unbound_each (bounds_of bs))
item_smaller [] i b h e = absurd (omega arith)
item_smaller (c ∷ bs) zero b h e = let q : size_of (unbound (bound_of b)) ≡ size_of (unbound (bound_of c)) = ap (λ x. size_of (unbound (bound_of x))) e in omega arith
item_smaller (c ∷ bs) (suc i) b h e = let q = item_smaller bs i b (omega arith) e in omega arith

-- ---- the first child that changes, and those behind it

pub first_changed : (bs : List BoundExpression) (i : ℕ) (b : BoundExpression) {u : BoundTree} → i < length bs → b ≡ get_or bs i b → EachFused (bounds_of (take i bs)) → (Fused (bound_of b) → ⊥) → IsFusedOf (bound_of b) u → FirstChanged (bounds_of bs) i u
first_changed [] i b h e f n p = absurd (omega arith)
first_changed (c ∷ bs) zero b {u = u} h e f n p = subst (λ x. (Fused (bound_of x) → ⊥) × IsFusedOf (bound_of x) u) e (n, p)
first_changed (c ∷ bs) (suc i) b h e f n p = (f.0, first_changed bs i b (omega arith) e f.1 n p)

pub changed_inside : (bs : List BoundExpression) (cs : BoundTrees) (i : ℕ) (u : BoundTree) → bounds_of bs ≡ cs → FirstChanged cs i u → i < length bs
changed_inside bs cs i u e p = go bs i (subst (λ z. FirstChanged z i u) (sym e) p)
  where
    go : (bs : List BoundExpression) (i : ℕ) → FirstChanged (bounds_of bs) i u → i < length bs
    go [] i p = absurd p
    go (b ∷ bs) zero p = omega arith
    go (b ∷ bs) (suc i) p = let h = go bs i p.1 in omega arith

pub changed_unfused : (bs : BoundTrees) (i : ℕ) (u : BoundTree) → FirstChanged bs i u → EachFused bs → ⊥
changed_unfused no_bound i u p f = p
changed_unfused (bound b bs) zero u p f = p.0 f.0
changed_unfused (bound b bs) (suc i) u p f = changed_unfused bs i u p.1 f.1

pub drop_typed : (n : ℕ) (bs : List BoundExpression) → EachWellTyped (bounds_of bs) → EachWellTyped (bounds_of (drop n bs))
drop_typed zero bs w = w
drop_typed (suc n) [] w = tt
drop_typed (suc n) (b ∷ bs) w = drop_typed n bs w.1

pub drop_smaller : (n : ℕ) (bs : List BoundExpression) → sizes_of (unbound_each (bounds_of (drop n bs))) ≤ sizes_of (unbound_each (bounds_of bs))
drop_smaller zero bs = omega arith
drop_smaller (suc n) [] = omega arith
drop_smaller (suc n) (b ∷ bs) = let q = drop_smaller n bs in omega arith

-- the children before the first that changes, what is fused of it, and the rest fused
pub each_from : (bs : List BoundExpression) (i : ℕ) (u : BoundTree) {us : BoundTrees} → FirstChanged (bounds_of bs) i u → EachFusedOf (bounds_of (drop (suc i) bs)) us → EachFusedOf (bounds_of bs) (with_more (with_more (bounds_of (take i bs)) (bound u no_bound)) us)
each_from [] i u p fs = absurd p
each_from (b ∷ bs) zero u p fs = more_fused p.1 fs
each_from (b ∷ bs) (suc i) u p fs = more_fused (itself_fused (bound_of b) p.0) (each_from bs i u p.1 fs)

-- what is put behind the list for a child is fused of it
pub put_fused : {b : BoundTree} (u : BoundExpression) (changed : Option (Box BoundExpression Global)) → Finds (Fused b) (λ w. IsFusedOf b (bound_of w.value)) (Ok changed) → MatchOption changed (bound_of u ≡ b) (λ c. u ≡ c.value) → IsFusedOf b (bound_of u)
put_fused {b = b} u None p e = rw e (itself_fused b p)
put_fused {b = b} u (Some c) p e = rw e p.1
