-- The rules of a CASE by its first condition as a function give just what the rules give, and at most one of all rules gives anything.
use Rattle.std.proofs.Common.{◌≡◌, ◌↔◌, ℕ, zero, suc, ◌-◌, ◌≤◌, ◌==◌, refl, sym, subst, Bool, true, false, not, arith}
use Rattle.std.specs.Prelude.{Some, Result, Ok, Err, if◌then◌else◌, nat_lt}
use Rattle.std.specs.Result.{result_ok}
use Rattle.std.proofs.lemmas.Bool.{ltb-true, ltb-false, lt-ltb}
use Rattle.vx_dtype.specs.declared.error.VortexError.{VortexError}
use Rattle.vx_value.specs.Types.{LogicalType, Datum, null, bool}
use Rattle.vx_fn.specs.Functions.{case_when, literal, fn_type}
use Rattle.vx_tree.specs.Trees.{BoundTree, node, BoundTrees, no_bound, bound, node_types, WellTyped, on_ok}
use Rattle.vx_rewrite_rule_laws.proofs.StandardDecisions.{rule_functional}
use Rattle.vx_rewrite_core.proofs.Literals.{literal_shape}
use Rattle.vx_rewrite_core.specs.Nodes.{as_type, literal_node}
use Rattle.vx_rewrite_rule_laws.specs.Rules.{RuleAt, null_first, null_last, fill_of_not_null, coalesce_to_null, coalesce, item_of_pack, item_of_nullable_pack, zip_chosen, zip_cast, select_none, select_none_of_pack, select_of_pack}
use Rattle.vx_rewrite_rule_laws.proofs.BranchKeeping.{FirstPair, first_pair}
use Rattle.vx_rewrite_rule_laws.specs.Branches.{NeverHolds, is_false, is_null, BranchAt, first_branch, other_pairs, else_branch, no_branch, BranchRuleAt}
use Rattle.vx_rewrite_rule_laws.specs.BranchGiven.{others_given, last_given, rest_given, given_by, branch_given}
use Rattle.vx_rewrite_core.proofs.Casts.{as_type-is, is-as_type}
use Rattle.vx_rewrite_core.proofs.Sets.{decided_functional, either_functional}
use Rattle.vx_rewrite_core.specs.Sets.{Functional}

-- ---- what a rule gives is given

passed_over : (c : Datum) (t : LogicalType) (pairs : ℕ) (has_else : Bool) (x : BoundTree) (rest : BoundTrees) → NeverHolds c → given_by t pairs has_else x rest c ≡ rest_given t pairs has_else rest
passed_over c t pairs has_else x rest is_false = refl
passed_over c t pairs has_else x rest is_null = refl

others_is : (t u : LogicalType) (pairs : ℕ) (has_else : Bool) (rest : BoundTrees) → 2 ≤ pairs → fn_type (case_when (pairs - 1) has_else) (node_types rest) ≡ Ok u → rest_given t pairs has_else rest ≡ Some (node u (case_when (pairs - 1) has_else) rest)
others_is t u pairs has_else rest h e = rw (lt-ltb 1 pairs (omega arith), e) refl

pub branch_is_given : (b u : BoundTree) → BranchAt b u → branch_given b ≡ Some u
branch_is_given b u (first_branch a) = rw (as_type-is a) refl
branch_is_given b u (other_pairs {t = t} {u = v} {c = c} {pairs = k} {has_else = h} {x = x} {rest = rest} z l e) = rw (passed_over c t k h x rest z) (others_is t v k h rest l e)
branch_is_given b u (else_branch is_false a) = rw (as_type-is a) refl
branch_is_given b u (else_branch is_null a) = rw (as_type-is a) refl
branch_is_given b u (no_branch is_false) = refl
branch_is_given b u (no_branch is_null) = refl

-- ---- what is given a rule gives

module _ (t m : LogicalType) (c : Datum) (x : BoundTree) (z : NeverHolds c) where
  others_rule : (pairs : ℕ) (has_else : Bool) (rest : BoundTrees) (u : BoundTree) → 2 ≤ pairs → others_given pairs has_else rest ≡ Some u → BranchAt (node t (case_when pairs has_else) (bound (literal_node m c) (bound x rest))) u
  others_rule pairs has_else rest u h e = go (fn_type (case_when (pairs - 1) has_else) (node_types rest)) refl e
    where
      go : (r : Result LogicalType VortexError) → fn_type (case_when (pairs - 1) has_else) (node_types rest) ≡ r → result_ok (on_ok (λ v. Ok (node v (case_when (pairs - 1) has_else) rest)) r) ≡ Some u → BranchAt (node t (case_when pairs has_else) (bound (literal_node m c) (bound x rest))) u
      go (Ok v) q e = let g : node v (case_when (pairs - 1) has_else) rest ≡ u = cc in subst (BranchAt (node t (case_when pairs has_else) (bound (literal_node m c) (bound x rest)))) g (other_pairs z h q)
      go (Err r) q e = cc

  last_rule : (has_else : Bool) (rest : BoundTrees) (u : BoundTree) → FirstPair t 1 has_else m x rest → last_given t has_else rest ≡ Some u → BranchAt (node t (case_when 1 has_else) (bound (literal_node m c) (bound x rest))) u
  last_rule true (bound y no_bound) u k e =
      let g : as_type t y ≡ u = cc in
      subst (BranchAt (node t (case_when 1 true) (bound (literal_node m c) (bound x (bound y no_bound))))) g (else_branch z (is-as_type t y))
  last_rule true no_bound u k e = cc
  last_rule true (bound y (bound y' ys)) u k e = cc
  last_rule false no_bound u k e =
      let g : literal_node t null ≡ u = cc in
      subst (BranchAt (node t (case_when 1 false) (bound (literal_node m c) (bound x no_bound)))) g (no_branch z)
  last_rule false (bound y ys) u k e = let n = k.count in absurd (omega arith)

  rest_rule : (pairs : ℕ) (has_else : Bool) (rest : BoundTrees) (u : BoundTree) → FirstPair t pairs has_else m x rest → rest_given t pairs has_else rest ≡ Some u → BranchAt (node t (case_when pairs has_else) (bound (literal_node m c) (bound x rest))) u
  rest_rule pairs has_else rest u k e = go (nat_lt 1 pairs) refl e
    where
      one : (n : ℕ) → n ≤ 1 → not (n == 0) ≡ true → n ≡ 1
      one zero h e = cc
      one (suc n) h e = omega arith

      go : (b : Bool) → nat_lt 1 pairs ≡ b → (if b then others_given pairs has_else rest else last_given t has_else rest) ≡ Some u → BranchAt (node t (case_when pairs has_else) (bound (literal_node m c) (bound x rest))) u
      go true q e = let h = ltb-true 1 pairs q in others_rule pairs has_else rest u (omega arith) e
      go false q e =
          let q : pairs ≡ 1 = one pairs (ltb-false 1 pairs q) k.some in
          subst (λ n. BranchAt (node t (case_when n has_else) (bound (literal_node m c) (bound x rest))) u) (sym q)
          (last_rule has_else rest u (subst (λ n. FirstPair t n has_else m x rest) q k) e)

by_value : (t m : LogicalType) (c : Datum) (pairs : ℕ) (has_else : Bool) (x : BoundTree) (rest : BoundTrees) (u : BoundTree) → FirstPair t pairs has_else m x rest → given_by t pairs has_else x rest c ≡ Some u → BranchAt (node t (case_when pairs has_else) (bound (literal_node m c) (bound x rest))) u
by_value t m (bool true) pairs has_else x rest u k e =
    let g : as_type t x ≡ u = cc in
    subst (BranchAt (node t (case_when pairs has_else) (bound (literal_node m (bool true)) (bound x rest)))) g (first_branch (is-as_type t x))
by_value t m (bool false) pairs has_else x rest u k e = rest_rule t m (bool false) x is_false pairs has_else rest u k e
by_value t m null pairs has_else x rest u k e = rest_rule t m null x is_null pairs has_else rest u k e
by_value t m _ pairs has_else x rest u k e = cc

condition_rule : (t : LogicalType) (pairs : ℕ) (has_else : Bool) (p x : BoundTree) (rest : BoundTrees) (u : BoundTree) → WellTyped (node t (case_when pairs has_else) (bound p (bound x rest))) → branch_given (node t (case_when pairs has_else) (bound p (bound x rest))) ≡ Some u → BranchAt (node t (case_when pairs has_else) (bound p (bound x rest))) u
condition_rule t pairs has_else (node m (literal v c) ls) x rest u w e =
    let l : node m (literal v c) ls ≡ literal_node m c = literal_shape m v c ls w.2.0 in
    subst (λ p. BranchAt (node t (case_when pairs has_else) (bound p (bound x rest))) u) (sym l)
    (by_value t m c pairs has_else x rest u (first_pair t m c pairs has_else x rest (subst (λ p. WellTyped (node t (case_when pairs has_else) (bound p (bound x rest)))) l w)) e)
condition_rule t pairs has_else _ x rest u w e = cc

given_branch : (b u : BoundTree) → WellTyped b → branch_given b ≡ Some u → BranchAt b u
given_branch (node t (case_when pairs has_else) (bound p (bound x rest))) u w e = condition_rule t pairs has_else p x rest u w e
given_branch _ u w e = cc

pub branch_decided : (b u : BoundTree) → WellTyped b → BranchAt b u ↔ (branch_given b ≡ Some u)
branch_decided b u w = (branch_is_given b u, given_branch b u w)

-- ---- at most one rule

branch_functional : Functional BranchAt
branch_functional = decided_functional BranchAt branch_given branch_decided

-- no standard rule fits where one of these does
apart : (b u v : BoundTree) → RuleAt b u → BranchAt b v → ⊥
apart b u v (fill_of_not_null e) r = elim r [ ]
apart b u v (coalesce_to_null null_first) r = elim r [ ]
apart b u v (coalesce_to_null null_last) r = elim r [ ]
apart b u v (coalesce null_first e p) r = elim r [ ]
apart b u v (coalesce null_last e p) r = elim r [ ]
apart b u v (item_of_pack e) r = elim r [ ]
apart b u v (item_of_nullable_pack e) r = elim r [ ]
apart b u v (zip_chosen e) r = elim r [ ]
apart b u v (zip_cast e) r = elim r [ ]
apart b u v (select_none q e) r = elim r [ ]
apart b u v (select_none_of_pack e) r = elim r [ ]
apart b u v (select_of_pack e h) r = elim r [ ]

pub branch_rule_functional : Functional BranchRuleAt
branch_rule_functional = either_functional RuleAt BranchAt rule_functional branch_functional apart
