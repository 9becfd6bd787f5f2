-- The rules of a CASE whose first condition is a literal: what is given at a node, alone and beside the standard rules.
use Rattle.std.specs.Prelude.{◌≡◌, ◌≤◌, ◌-◌, ℕ, Bool, true, false, Ok}
use Rattle.vx_value.specs.Types.{LogicalType, Datum, null, bool}
use Rattle.vx_fn.specs.Functions.{case_when, fn_type}
use Rattle.vx_tree.specs.Trees.{BoundTree, node, BoundTrees, bound, node_types}
use Rattle.vx_rewrite_core.specs.Sets.{either}
use Rattle.vx_rewrite_rule_laws.specs.Rules.{RuleAt}
use Rattle.vx_rewrite_core.specs.Nodes.{two_bounds, three_bounds, literal_node, AsType}

-- false or null: a condition that never chooses its value
pub data NeverHolds : Datum → Type 0 where
  is_false : NeverHolds (bool false)
  is_null : NeverHolds null

-- the rules of a CASE by its first condition
pub data BranchAt : BoundTree → BoundTree → Type 0 where
  -- where it is true: the first value, as one of the CASE's type
  first_branch : {t m : LogicalType} {pairs : ℕ} {has_else : Bool} {x u : BoundTree} {rest : BoundTrees} → AsType t x u → BranchAt (node t (case_when pairs has_else) (bound (literal_node m (bool true)) (bound x rest))) u
  -- where it is false or null and there are other pairs: the CASE of these, typed anew, so that its type may be narrower
  other_pairs : {t u m : LogicalType} {c : Datum} {pairs : ℕ} {has_else : Bool} {x : BoundTree} {rest : BoundTrees} →
      NeverHolds c →
      2 ≤ pairs →
      fn_type (case_when (pairs - 1) has_else) (node_types rest) ≡ Ok u →
      BranchAt (node t (case_when pairs has_else) (bound (literal_node m c) (bound x rest))) (node u (case_when (pairs - 1) has_else) rest)
  -- where it is false or null, of the only pair: ELSE, as one of the CASE's type
  else_branch : {t m : LogicalType} {c : Datum} {x y u : BoundTree} → NeverHolds c → AsType t y u → BranchAt (node t (case_when 1 true) (three_bounds (literal_node m c) x y)) u
  -- the same without ELSE: the null of the CASE's type
  no_branch : {t m : LogicalType} {c : Datum} {x : BoundTree} → NeverHolds c → BranchAt (node t (case_when 1 false) (two_bounds (literal_node m c) x)) (literal_node t null)

-- the standard rules and those of a CASE by its first condition
abbrev pub BranchRuleAt : BoundTree → BoundTree → Type 0
BranchRuleAt = either RuleAt BranchAt
