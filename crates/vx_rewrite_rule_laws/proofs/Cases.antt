-- A CASE without pairs whose condition never holds keeps it: its type is no wider, and its value is the same.
use Rattle.std.proofs.Common.{◌≡◌, ℕ, ◌+◌, ◌-◌, ◌*◌, List, [], ◌∷◌, length, refl, sym, ap, subst, Bool, true, false, arith}
use Rattle.std.specs.Prelude.{Some, None, Ok, if◌then◌else◌}
use Rattle.std.specs.List.{list_all}
use Rattle.std.proofs.lemmas.Bool.{and_parts, and_from, eq-eqb, not-true}
use Rattle.vx_value.specs.Types.{LogicalType, Datum, with_nullability}
use Rattle.vx_dtype.proofs.Unions.{above-left}
use Rattle.vx_dtype.specs.Joins.{same_base, join, union_all, Narrower}
use Rattle.vx_fn.proofs.Monotone.{nullable-mono, join-mono, same_at}
use Rattle.vx_fn.specs.Functions.{case_when, literal, conditions, branches, is_truth, fn_type}
use Rattle.vx_fn.specs.Rows.{FnType, of_case_else, of_case}
use Rattle.vx_fn.specs.Values.{is_true, first_true}
use Rattle.vx_tree.specs.Faults.{each_fault}
use Rattle.vx_tree.specs.Meaning.{value, values}
use Rattle.vx_tree.specs.Trees.{BoundTree, node, BoundTrees, bound, node_type, node_types, WellTyped, EachWellTyped, EachOver}
use Rattle.vx_rewrite_core.proofs.Keeping.{narrower_trans}
use Rattle.vx_rewrite_core.specs.Keeps.{Keeps}
use Rattle.vx_rewrite_core.proofs.Cases.{UnionBelow, not_zero}
use Rattle.vx_rewrite_core.proofs.Prelude.{narrower_refl, fn_type-found, fn_type-only, first_quiet, rest_quiet, children_quiet, CaseTyped, case_typed}
use Rattle.vx_rewrite_rule_laws.proofs.Pairs.{Without, no_pair, else_alone, left_out, stays}
use Rattle.vx_rewrite_rule_laws.specs.Folding.{is_idle}

-- ---- what is kept of the pairs

kept_typed : {rest kept : BoundTrees} {n : ℕ} → Without rest kept n → EachWellTyped rest → EachWellTyped kept
kept_typed no_pair w = w
kept_typed else_alone w = w
kept_typed (left_out e k) w = kept_typed k w.1.1
kept_typed (stays k) w = (w.0, (w.1.0, kept_typed k w.1.1))

kept_over : {rest kept : BoundTrees} {n : ℕ} → Without rest kept n → (s : LogicalType) → EachOver rest s → EachOver kept s
kept_over no_pair s o = o
kept_over else_alone s o = o
kept_over (left_out e k) s o = kept_over k s o.1.1
kept_over (stays k) s o = (o.0, (o.1.0, kept_over k s o.1.1))

kept_quiet : {rest kept : BoundTrees} {n : ℕ} → Without rest kept n → (batch : List Datum) → each_fault rest batch ≡ None → each_fault kept batch ≡ None
kept_quiet no_pair batch q = q
kept_quiet else_alone batch q = q
kept_quiet (left_out {c = c} {x = x} {rest = rest} e k) batch q = kept_quiet k batch (rest_quiet x rest batch (rest_quiet c (bound x rest) batch q))
kept_quiet (stays {c = c} {x = x} {rest = rest} k) batch q =
    let r = rest_quiet c (bound x rest) batch q in
    rw (first_quiet c (bound x rest) batch q, first_quiet x rest batch r) (kept_quiet k batch (rest_quiet x rest batch r))

-- a condition that never holds is passed over
idle_never : (c : BoundTree) → is_idle c ≡ true → (v : Datum) → is_true (value c v) ≡ false
idle_never (node t (literal u c) xs) e v = not-true (is_true c) e
idle_never _ e v = cc

kept_value : {rest kept : BoundTrees} {n : ℕ} → Without rest kept n → (v : Datum) → first_true (values kept v) ≡ first_true (values rest v)
kept_value no_pair v = refl
kept_value else_alone v = refl
kept_value (left_out {c = c} e k) v = rw (idle_never c e v) (kept_value k v)
kept_value (stays {c = c} {x = x} k) v = ap (λ r. if is_true (value c v) then value x v else r) (kept_value k v)

-- ---- its type

kept_count : {rest kept : BoundTrees} {n : ℕ} → Without rest kept n → length (node_types kept) + 2 * n ≡ length (node_types rest)
kept_count no_pair = refl
kept_count else_alone = refl
kept_count (left_out e k) = let h = kept_count k in omega (arith, h)
kept_count (stays k) = let h = kept_count k in omega (arith, h)

kept_truths : {rest kept : BoundTrees} {n : ℕ} → Without rest kept n → list_all is_truth (conditions (node_types rest)) ≡ true → list_all is_truth (conditions (node_types kept)) ≡ true
kept_truths no_pair e = e
kept_truths else_alone e = e
kept_truths (left_out q k) e = kept_truths k (and_parts _ _ e).1
kept_truths (stays k) e = let p = and_parts _ _ e in and_from _ _ p.0 (kept_truths k p.1)

-- what has a union behind a join has one with both
behind_join : (a' u : LogicalType) (ts : List LogicalType) (w : LogicalType) → (same_base a' u ≡ true) → UnionBelow (join a' u) ts w → UnionBelow a' (u ∷ ts) w
behind_join a' u ts w s r = (r.0, rw s r.1, r.2)

kept_union : {rest kept : BoundTrees} {n : ℕ} → Without rest kept n → (a' a w : LogicalType) → Narrower a' a → union_all a (branches (node_types rest)) ≡ Some w → UnionBelow a' (branches (node_types kept)) w
kept_union no_pair a' a w p e = let q : a ≡ w = cc in (a', refl, subst (Narrower a') q p)
kept_union (else_alone {x = x}) a' a w p e =
    let s = same_at a (node_type x) [] w e in
    let k = join-mono p (narrower_refl (node_type x)) s.0 in
    let h : union_all (join a (node_type x)) [] ≡ Some w = s.1 in
    let q : join a (node_type x) ≡ w = cc in
    behind_join a' (node_type x) [] w k.0 (join a' (node_type x), refl, subst (Narrower (join a' (node_type x))) q k.1)
kept_union (left_out {x = x} {rest = rest} i k) a' a w p e =
    let s = same_at a (node_type x) (branches (node_types rest)) w e in
    kept_union k a' (join a (node_type x)) w (narrower_trans p (above-left a (node_type x) s.0)) s.1
kept_union (stays {x = x} {rest = rest} {kept = kept} k) a' a w p e =
    let s = same_at a (node_type x) (branches (node_types rest)) w e in
    let j = join-mono p (narrower_refl (node_type x)) s.0 in
    behind_join a' (node_type x) (branches (node_types kept)) w j.0 (kept_union k (join a' (node_type x)) (join a (node_type x)) w j.1 s.1)

-- the first condition is of truth values
pub first_truth : {pairs : ℕ} {has_else : Bool} {c a t : LogicalType} {ts : List LogicalType} → FnType (case_when pairs has_else) (c ∷ a ∷ ts) t → is_truth c ≡ true
first_truth (of_case_else l z d e f) = (and_parts _ _ d).0
first_truth (of_case l z d e f) = (and_parts _ _ d).0

-- it has a type, which is no wider
pub fewer_typed : {rest kept : BoundTrees} {n : ℕ} → Without rest kept n → (pairs : ℕ) (has_else : Bool) (c a t : LogicalType) → is_truth c ≡ true → CaseTyped pairs has_else c a (node_types rest) t → (u : LogicalType) × FnType (case_when (pairs - n) has_else) (c ∷ a ∷ node_types kept) u × Narrower u t
fewer_typed k pairs true c a t i d =
    let l = d.count in
    let m = kept_count k in
    let r = kept_union k a a d.joined (narrower_refl a) d.union in
    (r.0, of_case_else (eq-eqb _ _ (omega arith)) (not_zero _ (omega arith)) (and_from _ _ i (kept_truths k d.truths)) refl r.1, subst (Narrower r.0) (sym d.type) r.2)
fewer_typed k pairs false c a t i d =
    let l = d.count in
    let m = kept_count k in
    let r = kept_union k a a d.joined (narrower_refl a) d.union in
    (with_nullability true r.0, of_case (eq-eqb _ _ (omega arith)) (not_zero _ (omega arith)) (and_from _ _ i (kept_truths k d.truths)) refl r.1, subst (Narrower (with_nullability true r.0)) (sym d.type) (nullable-mono true true (λ e. e) r.2))

-- ---- the law

pub keeps_fewer_pairs : {rest kept : BoundTrees} {n : ℕ} → Without rest kept n → (t u : LogicalType) (pairs : ℕ) (has_else : Bool) (c x : BoundTree) → WellTyped (node t (case_when pairs has_else) (bound c (bound x rest))) → fn_type (case_when (pairs - n) has_else) (node_types (bound c (bound x kept))) ≡ Ok u
    → Keeps (node t (case_when pairs has_else) (bound c (bound x rest))) (node u (case_when (pairs - n) has_else) (bound c (bound x kept)))
keeps_fewer_pairs {rest = rest} {kept = kept} {n = n} k t u pairs has_else c x w e =
    let d = fn_type-found (case_when pairs has_else) (node_type c ∷ node_type x ∷ node_types rest) t w.0 in
    let f = fewer_typed k pairs has_else (node_type c) (node_type x) t (first_truth d) (case_typed d) in
    let g = fn_type-only f.1 in
    let q : f.0 ≡ u = cc in
    record {
      typed_before = w;
      typed_after = (e, tt, (w.2.0, (w.2.1.0, kept_typed k w.2.1.1)));
      scopes = λ s o. (o.0, (o.1.0, kept_over k s o.1.1));
      type = subst (λ v. Narrower v t) q f.2;
      no_fault = λ s batch o i m.
          let a = children_quiet t (case_when pairs has_else) (bound c (bound x rest)) batch m in
          let h : each_fault (bound c (bound x kept)) batch ≡ None = kept_quiet (stays {c = c} {x = x} k) batch a in
          rw h refl;
      meaning = λ s batch o i m v j. kept_value (stays {c = c} {x = x} k) v;
    }
