-- Pairs of a CASE, one after another.
use Rattle.std.proofs.Common.{◌≡◌, ◌∙◌, ℕ, ◌+◌, ◌-◌, ◌*◌, ◌≤◌, ◌<◌, List, [], ◌∷◌, ◌++◌, length, map, get_or, take, drop, Bool, true, false, refl, sym, ap, subst, arith}
use Rattle.std.specs.Prelude.{if◌then◌else◌, IsOk, nat_lt}
use Rattle.std.proofs.lemmas.List.{take_all}
use Rattle.vx_value.specs.Types.{LogicalType}
use Rattle.vx_fn.specs.Functions.{case_when}
use Rattle.vx_tree.specs.Binding.{node_over}
use Rattle.vx_tree.specs.Trees.{BoundTree, node, BoundTrees, no_bound, bound, node_type, node_types, WellTyped}
use Rattle.vx_tree.specs.Views.{bound_of, bounds_of}
use Rattle.vx_tree.specs.declared.bound.BoundExpression.{BoundExpression}
use Rattle.vx_rewrite_core.proofs.Prelude.{fn_type-found, fn_type-only, CaseTyped, case_typed}
use Rattle.vx_rewrite_rule_laws.proofs.Cases.{fewer_typed, first_truth}
use Rattle.vx_rewrite_rule_laws.proofs.Pairs.{without}
use Rattle.vx_rewrite_folding.specs.Behind.{behind_all}
use Rattle.vx_rewrite_rule_laws.specs.Folding.{is_idle, idle_pairs, without_idle}

one_more : (b : Bool) (n k : ℕ) → 2 * n ≤ k → 2 * (if b then n + 1 else n) ≤ k + 2
one_more true n k h = omega (arith, h)
one_more false n k h = omega (arith, h)

-- two trees make a pair
idle_twice : (xs : BoundTrees) → 2 * idle_pairs xs ≤ length (node_types xs)
idle_twice no_bound = omega arith
idle_twice (bound x no_bound) = omega arith
idle_twice (bound c (bound x rest)) = let h = one_more (is_idle c) (idle_pairs rest) (length (node_types rest)) (idle_twice rest) in omega (arith, h)

-- so behind the first pair of a CASE no more are idle than it has
pub idle_some : (t : LogicalType) (pairs : ℕ) (has_else : Bool) (c x : BoundTree) (rest : BoundTrees) → WellTyped (node t (case_when pairs has_else) (bound c (bound x rest))) → idle_pairs rest ≤ pairs
idle_some t pairs has_else c x rest w = go has_else (case_typed (fn_type-found (case_when pairs has_else) (node_type c ∷ node_type x ∷ node_types rest) t w.0))
  where
    go : (e : Bool) → CaseTyped pairs e (node_type c) (node_type x) (node_types rest) t → idle_pairs rest ≤ pairs
    go true k = let n = k.count in let h = idle_twice rest in omega (arith, n, h)
    go false k = let n = k.count in let h = idle_twice rest in omega (arith, n, h)

-- and the CASE without these has a type
pub fewer_ok : (t : LogicalType) (pairs : ℕ) (has_else : Bool) (c x : BoundTree) (rest : BoundTrees) → WellTyped (node t (case_when pairs has_else) (bound c (bound x rest))) → IsOk (node_over (case_when (pairs - idle_pairs rest) has_else) (bound c (bound x (without_idle rest))))
fewer_ok t pairs has_else c x rest w =
    let d = fn_type-found (case_when pairs has_else) (node_type c ∷ node_type x ∷ node_types rest) t w.0 in
    let f = fewer_typed (without rest) pairs has_else (node_type c) (node_type x) t (first_truth d) (case_typed d) in
    rw (fn_type-only f.1) refl

-- an idle pair is one of those that are left to go over
pub idle_now : (c x : BoundExpression) (rest : List BoundExpression) → is_idle (bound_of c) ≡ true → idle_pairs (bounds_of (c ∷ x ∷ rest)) ≡ idle_pairs (bounds_of rest) + 1
idle_now c x rest e = rw e refl

-- a tree at the end of a list stands before those behind it
pub pushed_behind : (bs : List BoundExpression) (b : BoundExpression) (rest : BoundTrees) → behind_all (map bound_of (bs ++ b ∷ [])) rest ≡ behind_all (map bound_of bs) (bound (bound_of b) rest)
pushed_behind [] b rest = refl
pushed_behind (c ∷ bs) b rest = ap (bound (bound_of c)) (pushed_behind bs b rest)

-- a list with nothing behind it
pub nothing_behind : (bs : List BoundExpression) → behind_all (map bound_of bs) no_bound ≡ bounds_of bs
nothing_behind [] = refl
nothing_behind (c ∷ bs) = ap (bound (bound_of c)) (nothing_behind bs)

-- a pair that isn't idle is kept: the first two of those that are left to go over
pub kept_pair : (rest bs mid new : List BoundExpression) (c x c' x' : BoundExpression) → 2 ≤ length rest → c ≡ get_or rest 0 c → x ≡ get_or rest 1 x → bound_of c' ≡ bound_of c → bound_of x' ≡ bound_of x → mid ≡ bs ++ c' ∷ [] → new ≡ mid ++ x' ∷ [] → is_idle (bound_of c) ≡ false
    → behind_all (map bound_of new) (without_idle (bounds_of (take (length rest - 2) (drop 2 rest)))) ≡ behind_all (map bound_of bs) (without_idle (bounds_of rest))
kept_pair [] bs mid new c x c' x' h i j a b p q e = absurd (omega (arith, h))
kept_pair (c0 ∷ []) bs mid new c x c' x' h i j a b p q e = absurd (omega (arith, h))
kept_pair (c0 ∷ x0 ∷ more) bs mid new c x c' x' h i j a b p q e =
    let f : is_idle (bound_of c0) ≡ false = subst (λ y. is_idle (bound_of y) ≡ false) i e in
    let k : bound_of c' ≡ bound_of c0 = a ∙ ap bound_of i in
    let l : bound_of x' ≡ bound_of x0 = b ∙ ap bound_of j in
    let all : new ≡ (bs ++ c' ∷ []) ++ x' ∷ [] = q ∙ ap (λ ys. ys ++ x' ∷ []) p in
    rw (all, take_all (length (c0 ∷ x0 ∷ more) - 2) more (omega arith), pushed_behind (bs ++ c' ∷ []) x' (without_idle (bounds_of more)), pushed_behind bs c' (bound (bound_of x') (without_idle (bounds_of more))), k, l, f) refl

-- where nothing is left to go over, all is there
pub nothing_left : (rest kept : List BoundExpression) (all : BoundTrees) → length rest < 1 → behind_all (map bound_of kept) (without_idle (bounds_of rest)) ≡ all → bounds_of kept ≡ all
nothing_left [] kept all h e = sym (nothing_behind kept) ∙ e
nothing_left (x ∷ rest) kept all h e = absurd (omega (arith, h))

-- and where ELSE is left, behind it
pub else_left : (rest kept new : List BoundExpression) (x x' : BoundExpression) (all : BoundTrees) → length rest < 2 → 1 ≤ length rest → x ≡ get_or rest 0 x → bound_of x' ≡ bound_of x → new ≡ kept ++ x' ∷ [] → behind_all (map bound_of kept) (without_idle (bounds_of rest)) ≡ all → bounds_of new ≡ all
else_left [] kept new x x' all h k i b p e = absurd (omega (arith, k))
else_left (x0 ∷ y ∷ rest) kept new x x' all h k i b p e = absurd (omega (arith, h))
else_left (x0 ∷ []) kept new x x' all h k i b p e =
    let l : bound_of x' ≡ bound_of x0 = b ∙ ap bound_of i in
    ap bounds_of p ∙ sym (nothing_behind (kept ++ x' ∷ [])) ∙ pushed_behind kept x' no_bound ∙ ap (λ y. behind_all (map bound_of kept) (bound y no_bound)) l ∙ e

-- where no pair is left to go over, all idle ones were met
pub none_left : (rest : List BoundExpression) (trees : BoundTrees) (pairs left : ℕ) → length rest < 2 → idle_pairs trees ≤ pairs → left + idle_pairs trees ≡ pairs + idle_pairs (bounds_of rest) → left ≡ pairs - idle_pairs trees
none_left [] trees pairs left h k e = omega (arith, k, e)
none_left (x ∷ []) trees pairs left h k e = omega (arith, k, e)
none_left (x ∷ y ∷ rest) trees pairs left h k e = absurd (omega (arith, h))

-- where no pair is left to go over, and none was idle, none is
pub none_idle : (rest : List BoundExpression) (trees : BoundTrees) → length rest < 2 → idle_pairs trees ≡ idle_pairs (bounds_of rest) → false ≡ nat_lt 0 (idle_pairs trees)
none_idle [] trees h e = rw e refl
none_idle (x ∷ []) trees h e = rw e refl
none_idle (x ∷ y ∷ rest) trees h e = absurd (omega (arith, h))
