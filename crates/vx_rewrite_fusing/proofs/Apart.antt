-- Conjunctions whose conjuncts are fused.
use Rattle.std.proofs.Common.{◌≡◌, ◌⊎◌, inl, inr, ℕ, [], ◌∷◌, refl, sym, subst, ap, ◌∙◌, false}
use Rattle.std.specs.Prelude.{Option, Some, None, Result, Ok, Err, IsSome, IfErr, IfOk, option_map}
use Rattle.std.specs.declared.alloc.Global.{Global}
use Rattle.std.specs.declared.boxed.Box.{Box}
use Rattle.vx_dtype.specs.declared.error.VortexError.{VortexError}
use Rattle.vx_dtype.specs.declared.error.VortexError.TheVariants.{OutOfMemory}
use Rattle.vx_value.specs.Types.{LogicalType}
use Rattle.vx_fn.specs.Functions.{Function, binary, and_also}
use Rattle.vx_dtype.specs.Lists.{IsIn}
use Rattle.vx_dtype.proofs.Lists.{in_left, in_right}
use Rattle.vx_tree.specs.Trees.{BoundTree, node, BoundTrees, no_bound, bound, WellTyped}
use Rattle.vx_tree.specs.declared.bound.BoundExpression.{BoundExpression}
use Rattle.vx_rewrite_core.specs.Steps.{Step, OneStep, here, below, this_one, later_one, no_step, one_more}
use Rattle.vx_rewrite_fusing.specs.declared.ranges.Side.{Side}
use Rattle.vx_rewrite_fusing.specs.declared.ranges.Side.TheVariants.{Below, Above}
use Rattle.vx_rewrite_fusing.specs.Conjuncts.{and_node, and_of, is_and, conjuncts, range_of, below_and_above, above_and_below, tree_in, Fused, Mergeable, IsBinary}
use Rattle.vx_rewrite_fusing.specs.Finding.{side_of, tree_or, ConjunctsFused, Finds, IsFusedApart, Unbounded}
use Rattle.vx_rewrite_fusing.specs.Merging.{IsFusedOf, MergeAt, right_stays, right_goes, Merges}
use Rattle.vx_rewrite_fusing.proofs.Ands.{and_parts_of}
use Rattle.vx_rewrite_fusing.proofs.Children.{both_steps, merges_append}
use Rattle.vx_rewrite_fusing.proofs.Merges.{alone, fused_and, in_append, in_own, merges_alike}

-- ---- a tree that is no And stays none

same_and : (t t' : LogicalType) (f : Function) {bs us : BoundTrees} → OneStep MergeAt bs us → is_and (node t f bs) ≡ is_and (node t' f us)
same_and t t' (binary and_also) (this_one {bs = no_bound} s) = refl
same_and t t' (binary and_also) (this_one {bs = bound x no_bound} s) = refl
same_and t t' (binary and_also) (this_one {bs = bound x (bound y ys)} s) = refl
same_and t t' (binary and_also) (later_one (this_one {bs = no_bound} s)) = refl
same_and t t' (binary and_also) (later_one (this_one {bs = bound x xs} s)) = refl
same_and t t' (binary and_also) (later_one (later_one (this_one s))) = refl
same_and t t' (binary and_also) (later_one (later_one (later_one s))) = refl
same_and t t' _ s = refl

step_alone : {b u : BoundTree} → Step MergeAt b u → is_and b ≡ false → is_and u ≡ false
step_alone (here (right_stays f g i p q)) e = cc
step_alone (here (right_goes f g a i p)) e = cc
step_alone (below {t = t} {t' = t'} {f = f} s h) e = sym (same_and t t' f s) ∙ e

merges_alone : {b u : BoundTree} {n : ℕ} → Merges b n u → is_and b ≡ false → is_and u ≡ false
merges_alone no_step e = e
merges_alone (one_more s r) e = merges_alone r (step_alone s e)

-- ---- single conjuncts

pub conjunct_fused : (b : BoundTree) → is_and b ≡ false → ConjunctsFused b → Fused b
conjunct_fused b a f = f b (in_own b a)

one_apart : (b : BoundTree) → is_and b ≡ false → Fused b → ConjunctsFused b
one_apart b a f c i = go (subst (IsIn c) (alone b a) i)
  where
    go : IsIn c (b ∷ []) → Fused c
    go (inl e) = subst Fused (sym e) f
    go (inr j) = elim j [ ]

single_apart : {b u : BoundTree} → is_and b ≡ false → IsFusedOf b u → IsFusedApart b u
single_apart {u = u} a f = record { count = f.count; merges = f.merges; fused = one_apart u (merges_alone f.merges a) f.fused }

pub found_single : (b : BoundTree) (r : Result (Option (Box BoundExpression Global)) VortexError) → is_and b ≡ false → Finds (Fused b) (λ u. IsFusedOf b (tree_in u)) r → Finds (ConjunctsFused b) (λ u. IsFusedApart b (tree_in u)) r
found_single b (Ok None) a p = one_apart b a p
found_single b (Ok (Some u)) a p = (λ f. p.0 (conjunct_fused b a f), single_apart a p.1)
found_single b (Err e) a p = (λ f. p.0 (conjunct_fused b a f), p.1)

-- ---- Ands

pub conjuncts_apart : {l r b : BoundTree} → IsBinary and_also l r b → ConjunctsFused b → ConjunctsFused l × ConjunctsFused r
conjuncts_apart {l = l} {r = r} p f = go (subst ConjunctsFused p.1 f)
  where
    go : ConjunctsFused (and_node p.0 l r) → ConjunctsFused l × ConjunctsFused r
    go g = (λ c i. g c (in_left c (conjuncts l) (conjuncts r) i), λ c i. g c (in_right c (conjuncts l) (conjuncts r) i))

both_apart : (l r : BoundTree) (t : LogicalType) → ConjunctsFused l → ConjunctsFused r → ConjunctsFused (and_node t l r)
both_apart l r t f g c i = by (in_append c (conjuncts l) (conjuncts r) i)
  where
    by : IsIn c (conjuncts l) ⊎ IsIn c (conjuncts r) → Fused c
    by (inl j) = f c j
    by (inr j) = g c j

-- the conjuncts of a fused tree are fused
pub fused_apart : (b : BoundTree) → Fused b → ConjunctsFused b
fused_apart (node t (binary and_also) (bound l (bound r no_bound))) f = both_apart l r t (fused_apart l f.1.0) (fused_apart r f.1.1.0)
fused_apart b f = one_apart b refl f

pub apart_typed : {b u : BoundTree} → WellTyped b → IsFusedApart b u → WellTyped u
apart_typed {b = b} {u = u} w f = (merges_alike b u f.count w f.merges).0.typed_after

pub apart_then : {b u w : BoundTree} → IsFusedApart b u → IsFusedOf u w → IsFusedOf b w
apart_then f g = let m = merges_append f.merges g.merges in record { count = m.0; merges = m.1; fused = g.fused }

-- what a tree is, if it is no other
abbrev pub Found : Type 0
Found = Option (Box BoundExpression Global)

abbrev pub IsFound : BoundTree → Found → Type 0
IsFound b c = Finds (ConjunctsFused b) (λ u. IsFusedApart b (tree_in u)) (Ok c)

as_found : (b : BoundTree) (c : Found) → IsFound b c → IsFusedApart b (tree_or b c)
as_found b None f = record { count = 0; merges = no_step; fused = f }
as_found b (Some u) f = f.1

over_apart : {l r b : BoundTree} (c d : Found) (p : IsBinary and_also l r b) → WellTyped b → IsFound l c → IsFound r d → IsFusedApart b (and_of (tree_or l c) (tree_or r d))
over_apart {l = l} {r = r} {b = b} c d p w f g =
    let typed : WellTyped (and_node p.0 l r) = subst WellTyped p.1 w in
    let parts = and_parts_of p.0 l r typed in
    let one = as_found l c f in
    let two = as_found r d g in
    let steps = both_steps p.0 typed one.merges two.merges in
    let left = (merges_alike l (tree_or l c) one.count parts.left one.merges).1 in
    let right = (merges_alike r (tree_or r d) two.count parts.right two.merges).1 in
    let same : and_node p.0 (tree_or l c) (tree_or r d) ≡ and_of (tree_or l c) (tree_or r d) = ap (λ z. and_node z (tree_or l c) (tree_or r d)) (parts.type ∙ rw (left, right) refl) in
    subst (λ z. IsFusedApart z (and_of (tree_or l c) (tree_or r d))) (sym p.1) (subst (IsFusedApart (and_node p.0 l r)) same (record { count = steps.0; merges = steps.1; fused = both_apart (tree_or l c) (tree_or r d) p.0 one.fused two.fused }))

some_changed : {l r b : BoundTree} (c d : Found) → IsBinary and_also l r b → IsFound l c → IsFound r d → ((c ≡ None) × (d ≡ None) → ⊥) → ConjunctsFused b → ⊥
some_changed None None p f g n h = n (refl, refl)
some_changed (Some u) d p f g n h = f.0 (conjuncts_apart p h).0
some_changed None (Some u) p f g n h = g.0 (conjuncts_apart p h).1

pub found_both : {l r b : BoundTree} (c d : Found) (res : Result Found VortexError) → IsBinary and_also l r b → WellTyped b → IsFound l c → IsFound r d
    → IfOk res (λ o. IsSome o → option_map tree_in o ≡ Some (and_of (tree_or l c) (tree_or r d))) → (res ≡ Ok None → (c ≡ None) × (d ≡ None)) → (c ≡ None → d ≡ None → res ≡ Ok None) → IfErr res (λ e. e ≡ OutOfMemory)
    → Finds (ConjunctsFused b) (λ u. IsFusedApart b (tree_in u)) res
found_both {l = l} {r = r} {b = b} c d (Ok None) p w f g over stays whole memory = let n = stays refl in
    let left : ConjunctsFused l = subst (λ z. IsFound l z) n.0 f in
    let right : ConjunctsFused r = subst (λ z. IsFound r z) n.1 g in
    subst ConjunctsFused (sym p.1) (both_apart l r p.0 left right)
found_both {l = l} {r = r} {b = b} c d (Ok (Some u)) p w f g over stays whole memory =
    let same : tree_in u ≡ and_of (tree_or l c) (tree_or r d) = (let e : Some (tree_in u) ≡ Some (and_of (tree_or l c) (tree_or r d)) = over refl in cc) in
    (some_changed c d p f g (λ n. let e = whole n.0 n.1 in cc), subst (IsFusedApart b) (sym same) (over_apart c d p w f g))
found_both c d (Err e) p w f g over stays whole memory = (some_changed c d p f g (λ n. let q = whole n.0 n.1 in cc), memory)

-- ---- no pair where all ranges are from one side

one_side : (c d : BoundTree) (s : Side) → Mergeable c d → (option_map side_of (range_of c) ≡ Some s) ⊎ (option_map side_of (range_of d) ≡ Some s)
one_side c d Below (m, below_and_above e f) = inl (ap (option_map side_of) e)
one_side c d Below (m, above_and_below e f) = inr (ap (option_map side_of) f)
one_side c d Above (m, below_and_above e f) = inr (ap (option_map side_of) f)
one_side c d Above (m, above_and_below e f) = inl (ap (option_map side_of) e)

pub unbounded_fused : (s : Side) (b : BoundTree) → Unbounded s b → ConjunctsFused b → Fused b
unbounded_fused s (node t (binary and_also) (bound l (bound r no_bound))) n f =
    let parts = conjuncts_apart {l = l} {r = r} (t, refl) f in
    let on_left : Unbounded s l = (λ c i. n c (in_left c (conjuncts l) (conjuncts r) i)) in
    let on_right : Unbounded s r = (λ c i. n c (in_right c (conjuncts l) (conjuncts r) i)) in
    fused_and t l r (unbounded_fused s l on_left parts.0) (unbounded_fused s r on_right parts.1)
    (λ c d i j k. by c d i j on_left on_right (one_side c d s k))
  where
    by : (c d : BoundTree) → IsIn c (conjuncts l) → IsIn d (conjuncts r) → Unbounded s l → Unbounded s r → (option_map side_of (range_of c) ≡ Some s) ⊎ (option_map side_of (range_of d) ≡ Some s) → ⊥
    by c d i j p q (inl e) = p c i e
    by c d i j p q (inr e) = q d j e
unbounded_fused s b n f = conjunct_fused b refl f

pub unbounded_both : {l r b : BoundTree} (s : Side) → IsBinary and_also l r b → Unbounded s l → Unbounded s r → Unbounded s b
unbounded_both {l = l} {r = r} s p f g = subst (Unbounded s) (sym p.1) (λ c i. by c (in_append c (conjuncts l) (conjuncts r) i))
  where
    by : (c : BoundTree) → IsIn c (conjuncts l) ⊎ IsIn c (conjuncts r) → option_map side_of (range_of c) ≡ Some s → ⊥
    by c (inl j) = f c j
    by c (inr j) = g c j
