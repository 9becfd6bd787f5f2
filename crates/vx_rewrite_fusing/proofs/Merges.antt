-- Merges keep, keep trees fused below, and end.
use Rattle.std.proofs.Common.{◌≡◌, ◌⊎◌, inl, inr, ℕ, ◌+◌, ◌<◌, ◌≤◌, List, [], ◌∷◌, ◌++◌, length, refl, sym, subst, ap, ◌∙◌, Bool, true, false, arith}
use Rattle.std.specs.Prelude.{None, Ok, if◌then◌else◌}
use Rattle.std.proofs.lemmas.List.{length-append}
use Rattle.vx_value.specs.Types.{LogicalType}
use Rattle.vx_fn.specs.Functions.{Function, binary, and_also, fn_type}
use Rattle.vx_dtype.specs.Lists.{IsIn}
use Rattle.vx_dtype.proofs.Lists.{in_left, in_right}
use Rattle.vx_tree.specs.Trees.{BoundTree, scope, node, BoundTrees, no_bound, bound, node_type, node_types, WellTyped, EachWellTyped}
use Rattle.vx_rewrite_core.specs.Keeps.{Keeps}
use Rattle.vx_rewrite_core.specs.Steps.{Step, here, below, OneStep, this_one, later_one, Steps, no_step, one_more}
use Rattle.vx_rewrite_core.proofs.Stepping.{step_keeps, steps_keep}
use Rattle.vx_rewrite_fusing.specs.Conjuncts.{and_node, and_of, is_and, conjuncts, range_of, between_node, MergeTo, below_and_above, above_and_below, Mergeable, NoneMergeable, Fused, EachFused, FusedBelow}
use Rattle.vx_rewrite_fusing.specs.Merging.{Replaced, itself, on_left, on_right, Removed, left_gone, right_gone, from_left, from_right, MergeAt, right_stays, right_goes, Merges, KeepsAlike}
use Rattle.vx_rewrite_fusing.specs.Laws.{is_conjunction, and_count, and_counts}
use Rattle.vx_rewrite_fusing.proofs.Ands.{and_parts_of, alike_refl, alike_trans, and_alike, and_again, and_exchange, and_regroup, and_group}
use Rattle.vx_rewrite_fusing.proofs.Comparisons.{merged_alike, merged_parts, merged_ands}

-- ---- merges keep

-- what says the conjunct and d, in the conjunct's place, makes the tree say itself and d
replaced_alike : {c m l u : BoundTree} {front : List BoundTree} (d : BoundTree) → Replaced c m front l u → (WellTyped (and_of c d) → KeepsAlike (and_of c d) m) → WellTyped (and_of l d) → KeepsAlike (and_of l d) u
replaced_alike d (itself q) k w = k w
replaced_alike d (on_left {t = t} {l = l} {l' = l'} {r = r} p) k w =
    -- (l and r) and d = l and (r and d) = l and (d and r) = (l and d) and r
    let one = and_regroup _ t l r d w in
    let w1 = one.0.typed_after in
    let parts = and_parts_of _ l (and_of r d) w1 in
    let two = and_alike _ l l (and_of r d) (and_of d r) w1 (alike_refl l parts.left) (and_exchange _ r d parts.right) in
    let three = and_group _ _ l d r two.0.typed_after in
    let w3 = three.0.typed_after in
    let last = and_parts_of _ (and_of l d) r w3 in
    let four = and_alike _ (and_of l d) l' r r w3 (replaced_alike d p k last.left) (alike_refl r last.right) in
    alike_trans one (alike_trans two (alike_trans three four))
replaced_alike d (on_right {t = t} {l = l} {r = r} {r' = r'} p) k w =
    let one = and_regroup _ t l r d w in
    let w1 = one.0.typed_after in
    let parts = and_parts_of _ l (and_of r d) w1 in
    let two = and_alike _ l l (and_of r d) r' w1 (alike_refl l parts.left) (replaced_alike d p k parts.right) in
    alike_trans one two

removed_alike : {d r u : BoundTree} {front : List BoundTree} → Removed d front r u → WellTyped r → KeepsAlike r (and_of u d)
removed_alike {d = d} (left_gone {t = t} {r = r} q) w = and_exchange t d r w
removed_alike {d = d} (right_gone {t = t} {l = l} q) w = and_again t l d w
removed_alike {d = d} (from_left {t = t} {l = l} {l' = l'} {r = r} p) w =
    -- l and r = (l' and d) and r = l' and (d and r) = l' and (r and d) = (l' and r) and d
    let parts = and_parts_of t l r w in
    let one = and_alike t l (and_of l' d) r r w (removed_alike p parts.left) (alike_refl r parts.right) in
    let two = and_regroup _ _ l' d r one.0.typed_after in
    let w2 = two.0.typed_after in
    let q = and_parts_of _ l' (and_of d r) w2 in
    let three = and_alike _ l' l' (and_of d r) (and_of r d) w2 (alike_refl l' q.left) (and_exchange _ d r q.right) in
    let four = and_group _ _ l' r d three.0.typed_after in
    alike_trans one (alike_trans two (alike_trans three four))
removed_alike {d = d} (from_right {t = t} {l = l} {r = r} {r' = r'} p) w =
    let parts = and_parts_of t l r w in
    let one = and_alike t l l r (and_of r' d) w (alike_refl l parts.left) (removed_alike p parts.right) in
    let two = and_group _ _ l r' d one.0.typed_after in
    alike_trans one two

pub merge_alike : (b u : BoundTree) → WellTyped b → MergeAt b u → KeepsAlike b u
merge_alike b u w (right_stays {t = t} {l = l} {l' = l'} {r = r} {r' = r'} {c = c} {d = d} fl fr first p q) =
    -- l and r = l and (r' and d) = l and (d and r') = (l and d) and r' = l' and r'
    let parts = and_parts_of t l r w in
    let one = and_alike t l l r (and_of r' d) w (alike_refl l parts.left) (removed_alike q parts.right) in
    let w1 = one.0.typed_after in
    let again = and_parts_of _ l (and_of r' d) w1 in
    let two = and_alike _ l l (and_of r' d) (and_of d r') w1 (alike_refl l again.left) (and_exchange _ r' d again.right) in
    let three = and_group _ _ l d r' two.0.typed_after in
    let w3 = three.0.typed_after in
    let last = and_parts_of _ (and_of l d) r' w3 in
    let four = and_alike _ (and_of l d) l' r' r' w3 (replaced_alike d p (merged_alike first.mergeable) last.left) (alike_refl r' last.right) in
    alike_trans one (alike_trans two (alike_trans three four))
merge_alike b u w (right_goes {t = t} {l = l} {l' = l'} {c = c} {d = d} fl fd q first p) =
    let one = and_again t l d w in
    alike_trans one (replaced_alike d p (merged_alike first.mergeable) one.0.typed_after)

pub merge_keeps : (b u : BoundTree) → WellTyped b → MergeAt b u → Keeps b u
merge_keeps b u w m = (merge_alike b u w m).0

pub same_ok : (f : Function) (ts us : List LogicalType) (t u : LogicalType) → us ≡ ts → fn_type f ts ≡ Ok t → fn_type f us ≡ Ok u → u ≡ t
same_ok f ts us t u e p q = let r : fn_type f us ≡ Ok t = rw e p in cc

mutual
  pub step_type : {b u : BoundTree} → Step MergeAt b u → WellTyped b → node_type u ≡ node_type b
  step_type (here {b = b} {u = u} m) w = (merge_alike b u w m).1
  step_type (below {t = t} {t' = t'} {f = f} {bs = bs} {us = us} s e) w = same_ok f (node_types bs) (node_types us) t t' (one_step_types s w.2) w.0 e

  pub one_step_types : {bs us : BoundTrees} → OneStep MergeAt bs us → EachWellTyped bs → node_types us ≡ node_types bs
  one_step_types (this_one {bs = bs} s) w = ap (λ t. t ∷ node_types bs) (step_type s w.0)
  one_step_types (later_one {b = b} s) w = ap (λ ts. node_type b ∷ ts) (one_step_types s w.1)

steps_type : {b u : BoundTree} {n : ℕ} → Steps MergeAt b n u → WellTyped b → node_type u ≡ node_type b
steps_type no_step w = refl
steps_type (one_more s r) w = steps_type r (step_keeps MergeAt merge_keeps s w).typed_after ∙ step_type s w

pub merges_alike : (b u : BoundTree) (n : ℕ) → WellTyped b → Merges b n u → KeepsAlike b u
merges_alike b u n w m = (steps_keep MergeAt merge_keeps m w, steps_type m w)

-- ---- conjuncts of what is left

pub in_append : {A : Type 0} (x : A) (xs ys : List A) → IsIn x (xs ++ ys) → IsIn x xs ⊎ IsIn x ys
in_append x [] ys i = inr i
in_append x (y ∷ xs) ys (inl e) = inl (inl e)
in_append x (y ∷ xs) ys (inr i) = go (in_append x xs ys i)
  where
    go : IsIn x xs ⊎ IsIn x ys → IsIn x (y ∷ xs) ⊎ IsIn x ys
    go (inl j) = inl (inr j)
    go (inr j) = inr j

pub alone : (b : BoundTree) → is_and b ≡ false → conjuncts b ≡ b ∷ []
alone (node t (binary and_also) (bound l (bound r no_bound))) e = cc
alone _ e = refl

in_alone : (x b : BoundTree) → is_and b ≡ false → IsIn x (conjuncts b) → x ≡ b
in_alone x b e i = only (subst (IsIn x) (alone b e) i)
  where
    only : IsIn x (b ∷ []) → x ≡ b
    only (inl q) = q
    only (inr j) = elim j [ ]

pub either : {A B C : Type 0} → (A → C) → (B → C) → A ⊎ B → C
either f g (inl a) = f a
either f g (inr b) = g b

-- each of the first trees is one of the second, or m
abbrev Within : BoundTree → List BoundTree → List BoundTree → Type 0
Within m xs ys = (x : BoundTree) → IsIn x xs → IsIn x ys ⊎ (x ≡ m)

within_itself : (m : BoundTree) (xs : List BoundTree) → Within m xs xs
within_itself m xs x i = inl i

within_append : (m : BoundTree) (xs xs' ys ys' : List BoundTree) → Within m xs' xs → Within m ys' ys → Within m (xs' ++ ys') (xs ++ ys)
within_append m xs xs' ys ys' f g x i = either
    (λ j. either (λ k. inl (in_left x xs ys k)) (λ q. inr q) (f x j))
    (λ j. either (λ k. inl (in_right x xs ys k)) (λ q. inr q) (g x j))
    (in_append x xs' ys' i)

pub replaced_within : {c m l u : BoundTree} {front : List BoundTree} → Replaced c m front l u → is_and m ≡ false → Within m (conjuncts u) (conjuncts l)
replaced_within {m = m} (itself q) e = λ x i. inr (in_alone x m e i)
replaced_within {m = m} (on_left {l = l} {l' = l'} {r = r} p) e = within_append m (conjuncts l) (conjuncts l') (conjuncts r) (conjuncts r) (replaced_within p e) (within_itself m (conjuncts r))
replaced_within {m = m} (on_right {l = l} {r = r} {r' = r'} p) e = within_append m (conjuncts l) (conjuncts l) (conjuncts r) (conjuncts r') (within_itself m (conjuncts l)) (replaced_within p e)

abbrev AllIn : List BoundTree → List BoundTree → Type 0
AllIn xs ys = (x : BoundTree) → IsIn x xs → IsIn x ys

all_append : (xs xs' ys ys' : List BoundTree) → AllIn xs' xs → AllIn ys' ys → AllIn (xs' ++ ys') (xs ++ ys)
all_append xs xs' ys ys' f g x i = either (λ j. in_left x xs ys (f x j)) (λ j. in_right x xs ys (g x j)) (in_append x xs' ys' i)

removed_within : {d r u : BoundTree} {front : List BoundTree} → Removed d front r u → AllIn (conjuncts u) (conjuncts r)
removed_within {d = d} (left_gone {r = r} q) = λ x i. in_right x (conjuncts d) (conjuncts r) i
removed_within {d = d} (right_gone {l = l} q) = λ x i. in_left x (conjuncts l) (conjuncts d) i
removed_within (from_left {l = l} {l' = l'} {r = r} p) = all_append (conjuncts l) (conjuncts l') (conjuncts r) (conjuncts r) (removed_within p) (λ x i. i)
removed_within (from_right {l = l} {r = r} {r' = r'} p) = all_append (conjuncts l) (conjuncts l) (conjuncts r) (conjuncts r') (λ x i. i) (removed_within p)

pub in_own : (b : BoundTree) → is_and b ≡ false → IsIn b (conjuncts b)
in_own b e = subst (IsIn b) (sym (alone b e)) (inl refl)

pub replaced_from : {c m l u : BoundTree} {front : List BoundTree} → Replaced c m front l u → IsIn c (conjuncts l)
replaced_from {c = c} (itself q) = in_own c q
replaced_from {c = c} (on_left {l = l} {r = r} p) = in_left c (conjuncts l) (conjuncts r) (replaced_from p)
replaced_from {c = c} (on_right {l = l} {r = r} p) = in_right c (conjuncts l) (conjuncts r) (replaced_from p)

pub removed_from : {d r u : BoundTree} {front : List BoundTree} → Removed d front r u → IsIn d (conjuncts r)
removed_from {d = d} (left_gone {r = r} q) = in_left d (conjuncts d) (conjuncts r) (in_own d q)
removed_from {d = d} (right_gone {l = l} q) = in_right d (conjuncts l) (conjuncts d) (in_own d q)
removed_from {d = d} (from_left {l = l} {r = r} p) = in_left d (conjuncts l) (conjuncts r) (removed_from p)
removed_from {d = d} (from_right {l = l} {r = r} p) = in_right d (conjuncts l) (conjuncts r) (removed_from p)

-- ---- what is merged stays fused

-- a tree that is no range comparison is mergeable with none
pub no_left : {c d m : BoundTree} → MergeTo c d m → range_of c ≡ None → ⊥
no_left (below_and_above e f) n = cc
no_left (above_and_below e f) n = cc

pub no_right : {c d m : BoundTree} → MergeTo c d m → range_of d ≡ None → ⊥
no_right (below_and_above e f) n = cc
no_right (above_and_below e f) n = cc

none_within : (m : BoundTree) (xs ys : List BoundTree) → range_of m ≡ None → Within m xs ys → NoneMergeable ys ys → NoneMergeable xs xs
none_within m xs ys e f none c d i j k = either
    (λ p. either
    (λ q. none c d p q k)
    (λ q. no_right k.1 (subst (λ x. range_of x ≡ None) (sym q) e))
    (f d j))
    (λ p. no_left k.1 (subst (λ x. range_of x ≡ None) (sym p) e))
    (f c i)

none_all : (xs ys : List BoundTree) → AllIn xs ys → NoneMergeable ys ys → NoneMergeable xs xs
none_all xs ys f none c d i j k = none c d (f c i) (f d j) k

pub replaced_fused : {c m l u : BoundTree} {front : List BoundTree} → Replaced c m front l u → is_and m ≡ false → range_of m ≡ None → Fused m → Fused l → Fused u
replaced_fused (itself q) e n fm f = fm
replaced_fused {m = m} (on_left {t = t} {l = l} {l' = l'} {r = r} p) e n fm f =
    (none_within m (conjuncts (and_of l' r)) (conjuncts (and_node t l r)) n (replaced_within (on_left {t = t} {r = r} p) e) f.0, (replaced_fused p e n fm f.1.0, f.1.1))
replaced_fused {m = m} (on_right {t = t} {l = l} {r = r} {r' = r'} p) e n fm f =
    (none_within m (conjuncts (and_of l r')) (conjuncts (and_node t l r)) n (replaced_within (on_right {t = t} {l = l} p) e) f.0, (f.1.0, (replaced_fused p e n fm f.1.1.0, tt)))

pub removed_fused : {d r u : BoundTree} {front : List BoundTree} → Removed d front r u → Fused r → Fused u
removed_fused (left_gone q) f = f.1.1.0
removed_fused (right_gone q) f = f.1.0
removed_fused (from_left {t = t} {l = l} {l' = l'} {r = r} p) f =
    (none_all (conjuncts (and_of l' r)) (conjuncts (and_node t l r)) (removed_within (from_left {t = t} {r = r} p)) f.0, (removed_fused p f.1.0, f.1.1))
removed_fused (from_right {t = t} {l = l} {r = r} {r' = r'} p) f =
    (none_all (conjuncts (and_of l r')) (conjuncts (and_node t l r)) (removed_within (from_right {t = t} {l = l} p)) f.0, (f.1.0, (removed_fused p f.1.1.0, tt)))

pub conjunct_fused : {c m l u : BoundTree} {front : List BoundTree} → Replaced c m front l u → Fused l → Fused c
conjunct_fused (itself q) f = f
conjunct_fused (on_left p) f = conjunct_fused p f.1.0
conjunct_fused (on_right p) f = conjunct_fused p f.1.1.0

pub gone_fused : {d r u : BoundTree} {front : List BoundTree} → Removed d front r u → Fused r → Fused d
gone_fused (left_gone q) f = f.1.0
gone_fused (right_gone q) f = f.1.1.0
gone_fused (from_left p) f = gone_fused p f.1.0
gone_fused (from_right p) f = gone_fused p f.1.1.0

between_fused : (x y z : BoundTree) (ls us : Bool) → Fused x → Fused y → Fused z → Fused (between_node ls us x y z)
between_fused x y z ls us p q r = (λ c d i j k. only c d i k, (p, (q, (r, tt))))
  where
    only : (c d : BoundTree) → IsIn c (between_node ls us x y z ∷ []) → Mergeable c d → ⊥
    only c d (inl q) k = no_left k.1 (rw q refl)
    only c d (inr j) k = j

pub record Plain (m : BoundTree) : Type 0 where
  pub no_and : is_and m ≡ false
  pub no_range : range_of m ≡ None
  pub fused : Fused m

pub merged_plain : {c d m : BoundTree} → MergeTo c d m → Fused c → Fused d → Plain m
merged_plain {m = m} k p q =
    let a = merged_parts k p q in
    subst Plain (sym a.5) (record { no_and = refl; no_range = refl; fused = between_fused a.0 a.1 a.2 a.3 a.4 a.6 a.7 a.8 })

fused_below : (b : BoundTree) → Fused b → FusedBelow b
fused_below (scope t) f = tt
fused_below (node t g bs) f = f.1

pub merge_stays_fused : (b u : BoundTree) → MergeAt b u → FusedBelow u
merge_stays_fused b u (right_stays fl fr first p q) =
    let m = merged_plain first.mergeable (conjunct_fused p fl) (gone_fused q fr) in
    (replaced_fused p m.no_and m.no_range m.fused fl, (removed_fused q fr, tt))
merge_stays_fused b u (right_goes {l' = l'} fl fd q first p) =
    let m = merged_plain first.mergeable (conjunct_fused p fl) fd in
    fused_below l' (replaced_fused p m.no_and m.no_range m.fused fl)

-- ---- a fused tree has no merge

fused_no_merge : (b u : BoundTree) → Fused b → MergeAt b u → ⊥
fused_no_merge b u f (right_stays {l = l} {r = r} {c = c} {d = d} {m = m} fl fr first p q) =
    f.0 c d (in_left c (conjuncts l) (conjuncts r) (replaced_from p)) (in_right d (conjuncts l) (conjuncts r) (removed_from q)) (m, first.mergeable)
fused_no_merge b u f (right_goes {l = l} {c = c} {d = d} {m = m} fl fd q first p) =
    f.0 c d (in_left c (conjuncts l) (conjuncts d) (replaced_from p)) (in_right d (conjuncts l) (conjuncts d) (in_own d q)) (m, first.mergeable)

mutual
  pub fused_no_step : {b u : BoundTree} → Step MergeAt b u → Fused b → ⊥
  fused_no_step (here {b = b} {u = u} m) f = fused_no_merge b u f m
  fused_no_step (below s e) f = fused_no_steps s f.1

  pub fused_no_steps : {bs us : BoundTrees} → OneStep MergeAt bs us → EachFused bs → ⊥
  fused_no_steps (this_one s) f = fused_no_step s f.0
  fused_no_steps (later_one s) f = fused_no_steps s f.1

pub fused_steps : {b u : BoundTree} {n : ℕ} → Steps MergeAt b n u → Fused b → u ≡ b
fused_steps no_step f = refl
fused_steps (one_more s r) f = absurd (fused_no_step s f)

pub fused_stays : (b u : BoundTree) (n : ℕ) → Fused b → Merges b n u → u ≡ b
fused_stays b u n f m = fused_steps m f

-- ---- merging ends

replaced_length : {c m l u : BoundTree} {front : List BoundTree} → Replaced c m front l u → is_and m ≡ false → length (conjuncts u) ≡ length (conjuncts l)
replaced_length {c = c} {m = m} (itself q) e = ap length (alone m e) ∙ sym (ap length (alone c q))
replaced_length (on_left {l = l} {l' = l'} {r = r} p) e = let h = replaced_length p e in rw (length-append (conjuncts l') (conjuncts r), length-append (conjuncts l) (conjuncts r), h) refl
replaced_length (on_right {l = l} {r = r} {r' = r'} p) e = let h = replaced_length p e in rw (length-append (conjuncts l) (conjuncts r'), length-append (conjuncts l) (conjuncts r), h) refl

removed_length : {d r u : BoundTree} {front : List BoundTree} → Removed d front r u → length (conjuncts u) + 1 ≡ length (conjuncts r)
removed_length {d = d} (left_gone {r = r} q) = let a : length (conjuncts d) ≡ 1 = ap length (alone d q) in let b = length-append (conjuncts d) (conjuncts r) in omega arith
removed_length {d = d} (right_gone {l = l} q) = let a : length (conjuncts d) ≡ 1 = ap length (alone d q) in let b = length-append (conjuncts l) (conjuncts d) in omega arith
removed_length (from_left {l = l} {l' = l'} {r = r} p) = let h = removed_length p in let a = length-append (conjuncts l') (conjuncts r) in let b = length-append (conjuncts l) (conjuncts r) in omega arith
removed_length (from_right {l = l} {r = r} {r' = r'} p) = let h = removed_length p in let a = length-append (conjuncts l) (conjuncts r') in let b = length-append (conjuncts l) (conjuncts r) in omega arith

merged_alone : {c d m : BoundTree} → MergeTo c d m → is_and m ≡ false
merged_alone (below_and_above e f) = refl
merged_alone (above_and_below e f) = refl

pub merge_shortens : (b u : BoundTree) → MergeAt b u → length (conjuncts u) + 1 ≡ length (conjuncts b)
merge_shortens b u (right_stays {l = l} {l' = l'} {r = r} {r' = r'} fl fr first p q) =
    let x = replaced_length p (merged_alone first.mergeable) in
    let y = removed_length q in
    let a = length-append (conjuncts l') (conjuncts r') in
    let b = length-append (conjuncts l) (conjuncts r) in
    omega arith
merge_shortens b u (right_goes {l = l} {l' = l'} {d = d} fl fd q first p) =
    let x = replaced_length p (merged_alone first.mergeable) in
    let y : length (conjuncts d) ≡ 1 = ap length (alone d q) in
    let b = length-append (conjuncts l) (conjuncts d) in
    omega arith

-- ---- where no pair is left

merge_turned : {c d m : BoundTree} → MergeTo c d m → MergeTo d c m
merge_turned (below_and_above e f) = above_and_below f e
merge_turned (above_and_below e f) = below_and_above f e

not_itself : {b m : BoundTree} → MergeTo b b m → ⊥
not_itself (below_and_above e f) = cc
not_itself (above_and_below e f) = cc

alone_none : (b : BoundTree) → is_and b ≡ false → NoneMergeable (conjuncts b) (conjuncts b)
alone_none b e c d i j k = not_itself (subst (λ x. MergeTo x b k.0) (in_alone c b e i) (subst (λ x. MergeTo c x k.0) (in_alone d b e j) k.1))

pub none_of_fused : (b : BoundTree) → Fused b → NoneMergeable (conjuncts b) (conjuncts b)
none_of_fused (scope t) f = alone_none (scope t) refl
none_of_fused (node t g bs) f = f.0

pub fused_alone : (b : BoundTree) → FusedBelow b → is_and b ≡ false → Fused b
fused_alone (scope t) f e = tt
fused_alone (node t g bs) f e = (alone_none (node t g bs) e, f)

pub fused_and : (t : LogicalType) (l r : BoundTree) → Fused l → Fused r → NoneMergeable (conjuncts l) (conjuncts r) → Fused (and_node t l r)
fused_and t l r f g none = (both, (f, (g, tt)))
  where
    both : NoneMergeable (conjuncts l ++ conjuncts r) (conjuncts l ++ conjuncts r)
    both c d i j k = either
        (λ p. either (λ q. none_of_fused l f c d p q k) (λ q. none c d p q k) (in_append d (conjuncts l) (conjuncts r) j))
        (λ p. either (λ q. none d c q p (k.0, merge_turned k.1)) (λ q. none_of_fused r g c d p q k) (in_append d (conjuncts l) (conjuncts r) j))
        (in_append c (conjuncts l) (conjuncts r) i)

-- ---- each merge takes an And away

replaced_ands : {c m l u : BoundTree} {front : List BoundTree} → Replaced c m front l u → and_count u + and_count c ≡ and_count l + and_count m
replaced_ands (itself q) = omega arith
replaced_ands (on_left p) = let h = replaced_ands p in omega arith
replaced_ands (on_right p) = let h = replaced_ands p in omega arith

removed_ands : {d r u : BoundTree} {front : List BoundTree} → Removed d front r u → and_count u + and_count d + 1 ≡ and_count r
removed_ands (left_gone q) = omega arith
removed_ands (right_gone q) = omega arith
removed_ands (from_left p) = let h = removed_ands p in omega arith
removed_ands (from_right p) = let h = removed_ands p in omega arith

merge_ands : (b u : BoundTree) → MergeAt b u → and_count u < and_count b
merge_ands b u (right_stays fl fr first p q) = let x = replaced_ands p in let y = removed_ands q in let z = merged_ands first.mergeable in omega arith
merge_ands b u (right_goes fl fd q first p) = let x = replaced_ands p in let z = merged_ands first.mergeable in omega arith

node_ands : (t t' : LogicalType) (f : Function) (bs us : BoundTrees) → and_counts us < and_counts bs → and_count (node t' f us) < and_count (node t f bs)
node_ands t t' f bs us h = go (is_conjunction f)
  where
    go : (b : Bool) → (if b then 1 else 0) + and_counts us < (if b then 1 else 0) + and_counts bs
    go true = omega arith
    go false = omega arith

mutual
  step_ands : {b u : BoundTree} → Step MergeAt b u → and_count u < and_count b
  step_ands (here {b = b} {u = u} m) = merge_ands b u m
  step_ands (below {t = t} {t' = t'} {f = f} {bs = bs} {us = us} s e) = node_ands t t' f bs us (one_step_ands s)

  one_step_ands : {bs us : BoundTrees} → OneStep MergeAt bs us → and_counts us < and_counts bs
  one_step_ands (this_one s) = let h = step_ands s in omega arith
  one_step_ands (later_one s) = let h = one_step_ands s in omega arith

steps_ands : {b u : BoundTree} {n : ℕ} → Steps MergeAt b n u → n + and_count u ≤ and_count b
steps_ands no_step = omega arith
steps_ands (one_more s r) = let h = step_ands s in let k = steps_ands r in omega arith

pub merges_end : (b u : BoundTree) (n : ℕ) → Merges b n u → n + and_count u ≤ and_count b
merges_end b u n m = steps_ands m
