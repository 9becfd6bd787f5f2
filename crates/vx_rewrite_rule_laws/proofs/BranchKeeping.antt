-- Each rule of a CASE by its first condition keeps the tree at which it applies.
use Rattle.std.proofs.Common.{◌≡◌, ℕ, ◌-◌, ◌≤◌, List, [], ◌∷◌, refl, sym, subst, Bool, true, false}
use Rattle.std.specs.Prelude.{None, Ok}
use Rattle.vx_value.specs.Types.{LogicalType, Datum, null, bool}
use Rattle.vx_dtype.specs.Joins.{Narrower}
use Rattle.vx_fn.specs.Functions.{case_when, fn_type}
use Rattle.vx_fn.specs.Values.{first_true}
use Rattle.vx_fn.proofs.Rows.{fn_type-found, fn_type-only}
use Rattle.vx_fn.proofs.Monotone.{narrower_refl}
use Rattle.vx_tree.specs.Meaning.{value, values}
use Rattle.vx_tree.specs.Faults.{each_fault}
use Rattle.vx_tree.specs.Trees.{BoundTree, node, BoundTrees, no_bound, bound, node_type, node_types, WellTyped}
use Rattle.vx_rewrite_core.specs.Keeps.{Keeps}
use Rattle.vx_tree.proofs.Children.{rest_quiet, children_quiet}
use Rattle.vx_rewrite_core.proofs.Children.{second_quiet, third_quiet}
use Rattle.vx_rewrite_core.specs.Nodes.{one_bound, two_bounds, three_bounds, literal_node}
use Rattle.vx_rewrite_core.proofs.Cases.{CaseTyped, case_typed, first_narrower, OthersTyped, others_typed, else_narrower, null_fits}
use Rattle.vx_rewrite_rule_laws.specs.Branches.{NeverHolds, is_false, is_null, BranchAt, first_branch, other_pairs, else_branch, no_branch}
use Rattle.vx_rewrite_core.proofs.Casts.{keeps_as_type}

-- a condition that never holds is passed over
passed_over : (c v : Datum) (rest : List Datum) → NeverHolds c → first_true (c ∷ v ∷ rest) ≡ first_true rest
passed_over c v rest is_false = refl
passed_over c v rest is_null = refl

-- what typing says of a CASE whose first condition is a literal
abbrev pub FirstPair : LogicalType → ℕ → Bool → LogicalType → BoundTree → BoundTrees → Type 0
FirstPair t pairs has_else m x rest = CaseTyped pairs has_else m (node_type x) (node_types rest) t

pub first_pair : (t m : LogicalType) (c : Datum) (pairs : ℕ) (has_else : Bool) (x : BoundTree) (rest : BoundTrees) → WellTyped (node t (case_when pairs has_else) (bound (literal_node m c) (bound x rest))) → FirstPair t pairs has_else m x rest
first_pair t m c pairs has_else x rest w = case_typed (fn_type-found (case_when pairs has_else) (m ∷ node_type x ∷ node_types rest) t w.0)

keeps_first : (t m : LogicalType) (pairs : ℕ) (has_else : Bool) (x : BoundTree) (rest : BoundTrees) → WellTyped (node t (case_when pairs has_else) (bound (literal_node m (bool true)) (bound x rest))) → Keeps (node t (case_when pairs has_else) (bound (literal_node m (bool true)) (bound x rest))) x
keeps_first t m pairs has_else x rest w = record {
  typed_before = w;
  typed_after = w.2.1.0;
  scopes = λ s o. o.1.0;
  type = first_narrower (first_pair t m (bool true) pairs has_else x rest w);
  no_fault = λ s batch o i n. second_quiet t (case_when pairs has_else) (literal_node m (bool true)) x rest batch n;
  meaning = λ s batch o i n v j. refl;
}

same_narrower : (ts : List LogicalType) (t u : LogicalType) (pairs : ℕ) (has_else : Bool) → OthersTyped pairs has_else ts t → fn_type (case_when (pairs - 1) has_else) ts ≡ Ok u → Narrower u t
same_narrower ts t u pairs has_else k e =
    let f = fn_type-only k.1 in
    let q : k.0 ≡ u = cc in
    subst (λ v. Narrower v t) q k.2

keeps_others : (t u m : LogicalType) (c : Datum) (pairs : ℕ) (has_else : Bool) (x : BoundTree) (rest : BoundTrees) → WellTyped (node t (case_when pairs has_else) (bound (literal_node m c) (bound x rest))) → NeverHolds c → 2 ≤ pairs → fn_type (case_when (pairs - 1) has_else) (node_types rest) ≡ Ok u
    → Keeps (node t (case_when pairs has_else) (bound (literal_node m c) (bound x rest))) (node u (case_when (pairs - 1) has_else) rest)
keeps_others t u m c pairs has_else x rest w z h e = record {
  typed_before = w;
  typed_after = (e, tt, w.2.1.1);
  scopes = λ s o. o.1.1;
  type = same_narrower (node_types rest) t u pairs has_else (others_typed pairs has_else (node_types rest) h (first_pair t m c pairs has_else x rest w)) e;
  no_fault = λ s batch o i n.
      let q : each_fault rest batch ≡ None = rest_quiet x rest batch (rest_quiet (literal_node m c) (bound x rest) batch (children_quiet t (case_when pairs has_else) (bound (literal_node m c) (bound x rest)) batch n)) in
      rw q refl;
  meaning = λ s batch o i n v j. sym (passed_over c (value x v) (values rest v) z);
}

keeps_else : (t m : LogicalType) (c : Datum) (x y : BoundTree) → WellTyped (node t (case_when 1 true) (three_bounds (literal_node m c) x y)) → NeverHolds c → Keeps (node t (case_when 1 true) (three_bounds (literal_node m c) x y)) y
keeps_else t m c x y w z = record {
  typed_before = w;
  typed_after = w.2.1.1.0;
  scopes = λ s o. o.1.1.0;
  type = else_narrower (first_pair t m c 1 true x (one_bound y) w);
  no_fault = λ s batch o i n. third_quiet t (case_when 1 true) (literal_node m c) x y batch n;
  meaning = λ s batch o i n v j. sym (passed_over c (value x v) (value y v ∷ []) z);
}

keeps_null : (t m : LogicalType) (c : Datum) (x : BoundTree) → WellTyped (node t (case_when 1 false) (two_bounds (literal_node m c) x)) → NeverHolds c → Keeps (node t (case_when 1 false) (two_bounds (literal_node m c) x)) (literal_node t null)
keeps_null t m c x w z = record {
  typed_before = w;
  typed_after = (refl, null_fits (first_pair t m c 1 false x no_bound w), tt);
  scopes = λ s o. tt;
  type = narrower_refl t;
  no_fault = λ s batch o i n. refl;
  meaning = λ s batch o i n v j. sym (passed_over c (value x v) [] z);
}

pub branch_keeps : (b u : BoundTree) → WellTyped b → BranchAt b u → Keeps b u
branch_keeps b u w (first_branch {t = t} {m = m} {pairs = k} {has_else = h} {x = x} {rest = rest} a) = keeps_as_type b x u (keeps_first t m k h x rest w) a
branch_keeps b u w (other_pairs {t = t} {u = v} {m = m} {c = c} {pairs = k} {has_else = h} {x = x} {rest = rest} z l e) = keeps_others t v m c k h x rest w z l e
branch_keeps b u w (else_branch {t = t} {m = m} {c = c} {x = x} {y = y} z a) = keeps_as_type b y u (keeps_else t m c x y w z) a
branch_keeps b u w (no_branch {t = t} {m = m} {c = c} {x = x} z) = keeps_null t m c x w z
