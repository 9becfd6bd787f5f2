-- Merges that leave no pair give one and the same tree, whatever their order.
use Rattle.std.proofs.Common.{◌≡◌, ◌⊎◌, inl, inr, ℕ, suc, List, [], ◌∷◌, ◌++◌, refl, sym, ap, subst, ◌∙◌, Bool, true, false}
use Rattle.std.specs.Prelude.{Ok, Some}
use Rattle.vx_value.specs.Types.{LogicalType}
use Rattle.vx_fn.specs.Functions.{Function, fn_type}
use Rattle.vx_dtype.specs.Lists.{IsIn}
use Rattle.vx_dtype.proofs.Lists.{in_left, in_right}
use Rattle.vx_tree.specs.Trees.{BoundTree, node, BoundTrees, bound, node_types, WellTyped, EachWellTyped}
use Rattle.vx_rewrite_core.specs.Steps.{Step, here, below, OneStep, this_one, later_one, no_step, one_more}
use Rattle.vx_rewrite_core.proofs.Stepping.{step_keeps, one_step_keeps}
use Rattle.vx_rewrite_core.proofs.Keeping.{each_typed_after}
use Rattle.vx_rewrite_fusing.specs.Conjuncts.{and_of, is_and, conjuncts, from_below, from_above, between_node, MergeTo, below_and_above, above_and_below, Mergeable, NoneMergeable, Fused, FusedBelow}
use Rattle.vx_rewrite_fusing.specs.Merging.{Replaced, itself, on_left, on_right, Removed, left_gone, right_gone, from_left, from_right, MergeAt, right_stays, right_goes, Merges}
use Rattle.vx_rewrite_fusing.specs.Laws.{FusingIsUnique}
use Rattle.vx_rewrite_fusing.proofs.Merges.{in_own, replaced_from, removed_from, merge_keeps, same_ok, one_step_types, fused_no_step, fused_no_steps, fused_steps}

-- ---- a merge at an And is fixed

same_between : (ls ls' us us' : Bool) (x x' y y' z z' : BoundTree) → ls ≡ ls' → us ≡ us' → x ≡ x' → y ≡ y' → z ≡ z' → between_node ls us x y z ≡ between_node ls' us' x' y' z'
same_between ls ls' us us' x x' y y' z z' a b c d e = rw (a, b, c, d, e) refl

merge_to_unique : {c d m m' : BoundTree} → MergeTo c d m → MergeTo c d m' → m ≡ m'
merge_to_unique (below_and_above {x = x} {y = y} {z = z} {ls = ls} {us = us} e f) (below_and_above {x = x'} {y = y'} {z = z'} {ls = ls'} {us = us'} g h) =
    let low : Some (from_below ls x y) ≡ Some (from_below ls' x' y') = sym e ∙ g in
    let high : Some (from_above us x z) ≡ Some (from_above us' x' z') = sym f ∙ h in
    same_between ls ls' us us' x x' y y' z z' (cc) (cc) (cc) (cc) (cc)
merge_to_unique (above_and_below {x = x} {y = y} {z = z} {ls = ls} {us = us} e f) (above_and_below {x = x'} {y = y'} {z = z'} {ls = ls'} {us = us'} g h) =
    let high : Some (from_above us x z) ≡ Some (from_above us' x' z') = sym e ∙ g in
    let low : Some (from_below ls x y) ≡ Some (from_below ls' x' y') = sym f ∙ h in
    same_between ls ls' us us' x x' y y' z z' (cc) (cc) (cc) (cc) (cc)
merge_to_unique (below_and_above e f) (above_and_below g h) = cc
merge_to_unique (above_and_below e f) (below_and_above g h) = cc

-- a conjunct with a partner is none of those without
abbrev Partner : List BoundTree → BoundTree → Type 0
Partner cs d = (c : BoundTree) × IsIn c cs × Mergeable c d

not_among : {d : BoundTree} (cs back : List BoundTree) → NoneMergeable cs back → Partner cs d → IsIn d back → ⊥
not_among {d = d} cs back none p i = none p.0 d p.1 i p.2

none_behind : (cs xs ys : List BoundTree) → NoneMergeable cs (xs ++ ys) → NoneMergeable cs ys
none_behind cs xs ys none c d i j k = none c d i (in_right d xs ys j) k

none_of_rest : (xs ys ds : List BoundTree) → NoneMergeable (xs ++ ys) ds → NoneMergeable ys ds
none_of_rest xs ys ds none c d i j k = none c d (in_right c xs ys i) j k

removed_is_and : {d r u : BoundTree} {back : List BoundTree} → Removed d back r u → is_and r ≡ true
removed_is_and (left_gone e) = refl
removed_is_and (right_gone e) = refl
removed_is_and (from_left p) = refl
removed_is_and (from_right p) = refl

not_removed : {P : Type 0} {d r u : BoundTree} {back : List BoundTree} → Removed d back r u → is_and r ≡ false → P
not_removed p e = let q = removed_is_and p in cc

removed_unique : {d d' r u u' : BoundTree} {back back' : List BoundTree} (cs : List BoundTree) → Removed d back r u → Removed d' back' r u' → NoneMergeable cs back → NoneMergeable cs back' → Partner cs d → Partner cs d' → (d ≡ d') × (u ≡ u')
removed_unique cs (left_gone e) (left_gone f) n n' p p' = (refl, refl)
removed_unique {d = d} cs (left_gone e) (right_gone f) n n' p p' = absurd (not_among cs (conjuncts d) n' p (in_own d e))
removed_unique cs (left_gone e) (from_left q) n n' p p' = not_removed q e
removed_unique {d = d} cs (left_gone e) (from_right {front = front} q) n n' p p' = absurd (not_among cs (conjuncts d ++ front) n' p (in_left d (conjuncts d) front (in_own d e)))
removed_unique {d' = d'} cs (right_gone e) (left_gone f) n n' p p' = absurd (not_among cs (conjuncts d') n p' (in_own d' f))
removed_unique cs (right_gone e) (right_gone f) n n' p p' = (refl, refl)
removed_unique cs (right_gone {l = l} e) (from_left q) n n' p p' = absurd (not_among cs (conjuncts l) n p' (removed_from q))
removed_unique cs (right_gone e) (from_right q) n n' p p' = not_removed q e
removed_unique cs (from_left o) (left_gone f) n n' p p' = not_removed o f
removed_unique cs (from_left o) (right_gone {l = l} f) n n' p p' = absurd (not_among cs (conjuncts l) n' p (removed_from o))
removed_unique cs (from_left {r = r} o) (from_left q) n n' p p' = let s = removed_unique cs o q n n' p p' in (s.0, ap (λ x. and_of x r) s.1)
removed_unique {d = d} cs (from_left {l = l} o) (from_right {front = front} q) n n' p p' = absurd (not_among cs (conjuncts l ++ front) n' p (in_left d (conjuncts l) front (removed_from o)))
removed_unique {d' = d'} cs (from_right {front = front} o) (left_gone f) n n' p p' = absurd (not_among cs (conjuncts d' ++ front) n p' (in_left d' (conjuncts d') front (in_own d' f)))
removed_unique cs (from_right o) (right_gone f) n n' p p' = not_removed o f
removed_unique {d' = d'} cs (from_right {l = l} {front = front} o) (from_left q) n n' p p' = absurd (not_among cs (conjuncts l ++ front) n p' (in_left d' (conjuncts l) front (removed_from q)))
removed_unique cs (from_right {l = l} {front = front} o) (from_right {front = front'} q) n n' p p' =
    let s = removed_unique cs o q (none_behind cs (conjuncts l) front n) (none_behind cs (conjuncts l) front' n') p p' in
    (s.0, ap (λ x. and_of l x) s.1)

met : {c m d : BoundTree} (front : List BoundTree) → MergeTo c d m → NoneMergeable front (d ∷ []) → IsIn c front → ⊥
met {c = c} {m = m} {d = d} front k none i = none c d i (inl refl) (m, k)

replaced_unique : {c c' m m' l u u' : BoundTree} {front front' : List BoundTree} (d : BoundTree) → Replaced c m front l u → Replaced c' m' front' l u' → MergeTo c d m → MergeTo c' d m' → NoneMergeable front (d ∷ []) → NoneMergeable front' (d ∷ []) → u ≡ u'
replaced_unique d (itself e) (itself f) k k' n n' = merge_to_unique k k'
replaced_unique d (itself e) (on_left q) k k' n n' = cc
replaced_unique d (itself e) (on_right q) k k' n n' = cc
replaced_unique d (on_left o) (itself f) k k' n n' = cc
replaced_unique d (on_right o) (itself f) k k' n n' = cc
replaced_unique d (on_left {r = r} o) (on_left q) k k' n n' = ap (λ x. and_of x r) (replaced_unique d o q k k' n n')
replaced_unique {c = c} d (on_left {l = l} o) (on_right {front = front} q) k k' n n' = absurd (met (conjuncts l ++ front) k n' (in_left c (conjuncts l) front (replaced_from o)))
replaced_unique {c' = c'} d (on_right {l = l} {front = front} o) (on_left q) k k' n n' = absurd (met (conjuncts l ++ front) k' n (in_left c' (conjuncts l) front (replaced_from q)))
replaced_unique d (on_right {l = l} {front = front} o) (on_right {front = front'} q) k k' n n' =
    ap (λ x. and_of l x) (replaced_unique d o q k k' (none_of_rest (conjuncts l) front (d ∷ []) n) (none_of_rest (conjuncts l) front' (d ∷ []) n'))

replaced_with : {c c' m m' l u u' d d' : BoundTree} {front front' : List BoundTree} → d ≡ d' → Replaced c m front l u → Replaced c' m' front' l u' → MergeTo c d m → MergeTo c' d' m' → NoneMergeable front (d ∷ []) → NoneMergeable front' (d' ∷ []) → u ≡ u'
replaced_with {c' = c'} {m' = m'} {d = d} {front' = front'} e o q k k' n n' =
    replaced_unique d o q k (subst (λ x. MergeTo c' x m') (sym e) k') n (subst (λ x. NoneMergeable front' (x ∷ [])) (sym e) n')

merge_unique : {b u w : BoundTree} → MergeAt b u → MergeAt b w → u ≡ w
merge_unique (right_stays {l = l} {l' = l'} {r' = r'} {c = c} {m = m} fl fr first p q) (right_stays {l' = k'} {r' = s'} {c = c'} {m = m'} fl' fr' first' p' q') =
    let gone = removed_unique (conjuncts l) q q' first.none_of_back first'.none_of_back (c, replaced_from p, (m, first.mergeable)) (c', replaced_from p', (m', first'.mergeable)) in
    let left = replaced_with gone.0 p p' first.mergeable first'.mergeable first.none_of_front first'.none_of_front in
    ap (λ x. and_of x r') left ∙ ap (λ x. and_of k' x) gone.1
merge_unique (right_goes {d = d} fl fd e first p) (right_goes fl' fd' e' first' p') = replaced_unique d p p' first.mergeable first'.mergeable first.none_of_front first'.none_of_front
merge_unique (right_stays fl fr first p q) (right_goes fl' fd' e' first' p') = not_removed q e'
merge_unique (right_goes fl fd e first p) (right_stays fl' fr' first' p' q') = not_removed q' e

-- ---- two merges of one tree are one, or lie beside one another

abbrev Meet : BoundTree → BoundTree → Type 0
Meet u w = (u ≡ w) ⊎ ((v : BoundTree) × Step MergeAt u v × Step MergeAt w v)

abbrev EachMeet : BoundTrees → BoundTrees → Type 0
EachMeet us ws = (us ≡ ws) ⊎ ((vs : BoundTrees) × OneStep MergeAt us vs × OneStep MergeAt ws vs)

fused_before : {b u : BoundTree} → MergeAt b u → FusedBelow b
fused_before (right_stays fl fr first p q) = (fl, (fr, tt))
fused_before (right_goes fl fd e first p) = (fl, (fd, tt))

node_meet : (t t' t'' : LogicalType) (f : Function) (bs us ws : BoundTrees) → WellTyped (node t f bs) → OneStep MergeAt bs us → OneStep MergeAt bs ws → fn_type f (node_types us) ≡ Ok t' → fn_type f (node_types ws) ≡ Ok t'' → EachMeet us ws → Meet (node t' f us) (node t'' f ws)
node_meet t t' t'' f bs us ws w s r e h (inl q) =
    let same : t'' ≡ t' = same_ok f (node_types us) (node_types ws) t' t'' (sym (ap node_types q)) e h in
    inl (ap (λ x. node x f us) (sym same) ∙ ap (node t'' f) q)
node_meet t t' t'' f bs us ws w s r e h (inr (vs, o, q)) =
    let again : fn_type f (node_types vs) ≡ Ok t = ap (fn_type f) (one_step_types o (each_typed_after (one_step_keeps MergeAt merge_keeps s w.2)) ∙ one_step_types s w.2) ∙ w.0 in
    inr (node t f vs, below o again, below q again)

first_meet : {u w : BoundTree} (bs : BoundTrees) → Meet u w → EachMeet (bound u bs) (bound w bs)
first_meet bs (inl e) = inl (ap (λ x. bound x bs) e)
first_meet bs (inr (v, s, r)) = inr (bound v bs, this_one s, this_one r)

later_meet : {us ws : BoundTrees} (b : BoundTree) → EachMeet us ws → EachMeet (bound b us) (bound b ws)
later_meet b (inl e) = inl (ap (bound b) e)
later_meet b (inr (vs, s, r)) = inr (bound b vs, later_one s, later_one r)

mutual
  step_meet : {b u w : BoundTree} → Step MergeAt b u → Step MergeAt b w → WellTyped b → Meet u w
  step_meet (here m) (here m') w = inl (merge_unique m m')
  step_meet (here m) (below s e) w = absurd (fused_no_steps s (fused_before m))
  step_meet (below s e) (here m) w = absurd (fused_no_steps s (fused_before m))
  step_meet (below {t = t} {t' = t'} {f = f} {bs = bs} {us = us} s e) (below {t' = t''} {us = ws} r h) w = node_meet t t' t'' f bs us ws w s r e h (one_step_meet s r w.2)

  one_step_meet : {bs us ws : BoundTrees} → OneStep MergeAt bs us → OneStep MergeAt bs ws → EachWellTyped bs → EachMeet us ws
  one_step_meet (this_one {bs = bs} s) (this_one r) w = first_meet bs (step_meet s r w.0)
  one_step_meet (this_one {u = u} s) (later_one {us = us} r) w = inr (bound u us, later_one r, this_one s)
  one_step_meet (later_one {us = us} s) (this_one {u = u} r) w = inr (bound u us, this_one r, later_one s)
  one_step_meet (later_one {b = b} s) (later_one r) w = later_meet b (one_step_meet s r w.1)

-- ---- so another first merge leads to the same tree

continued : {c u w : BoundTree} {n : ℕ} → Meet c w → ((v : BoundTree) → Step MergeAt c v → (k : ℕ) × Merges v k u) → Merges c n u → (k : ℕ) × Merges w k u
continued {u = u} {n = n} (inl e) next r = (n, subst (λ x. Merges x n u) e r)
continued (inr (v, s, o)) next r = let p = next v s in (suc p.0, one_more o p.1)

after_another : {b u w : BoundTree} {n : ℕ} → Merges b n u → Fused u → Step MergeAt b w → WellTyped b → (k : ℕ) × Merges w k u
after_another no_step f s t = absurd (fused_no_step s f)
after_another (one_more {u = c} s r) f o t = continued (step_meet s o t) (λ v q. after_another r f q (step_keeps MergeAt merge_keeps s t).typed_after) r

fusing_unique : {b u w : BoundTree} {n k : ℕ} → WellTyped b → Merges b n u → Fused u → Merges b k w → Fused w → u ≡ w
fusing_unique t m f no_step g = fused_steps m g
fusing_unique t m f (one_more s r) g =
    let p = after_another m f s t in
    fusing_unique (step_keeps MergeAt merge_keeps s t).typed_after p.1 f r g

pub fusing_is_unique : FusingIsUnique
fusing_is_unique b u w n k t m f o g = fusing_unique t m f o g
