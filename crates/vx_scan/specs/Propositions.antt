-- Facts of plans have one proof at most, as what is stored beside a plan has to.
use Rattle.std.specs.Prelude.{List, Option}
use Rattle.std.specs.Coded.{Coded, Coded-set, coded_bool, coded_list, coded_ℕ, coded_result, codes, ×_prop, Unit-prop}
use Rattle.vx_dtype.specs.Codes.{type_code}
use Rattle.vx_dtype.specs.declared.error.VortexError.{VortexError}
use Rattle.vx_value.specs.Paths.{Path}
use Rattle.vx_value.specs.Types.{LogicalType}
use Rattle.vx_fn.specs.Functions.{Function, HasFittingLiteral, literal, Typing}
use Rattle.vx_tree.specs.Trees.{BoundTree, scope, node, BoundTrees, no_bound, bound, WellTyped, EachWellTyped, Over, EachOver}
use Rattle.vx_rewrite_core.specs.Steps.{Normal, EachNormal}
use Rattle.vx_rewrite_rule_laws.specs.Rules.{RuleAt}
use Rattle.vx_query_split.specs.Division.{Parts}
use Rattle.vx_scan.specs.Plans.{IsPlan}

pub refusal_code : Coded VortexError
refusal_code = hlevel codes

typing-set : IsSet Typing
typing-set = Coded-set (coded_result type_code refusal_code)

paths-set : IsSet (List Path)
paths-set = Coded-set (coded_list (coded_list (coded_list coded_ℕ)))

literal-prop : (f : Function) → IsProp (HasFittingLiteral f)
literal-prop (literal t v) = hlevel (Coded-set coded_bool)
literal-prop _ = Unit-prop

mutual
  pub well_typed-prop : (b : BoundTree) → IsProp (WellTyped b)
  well_typed-prop (scope t) = Unit-prop
  well_typed-prop (node t f bs) = hlevel (typing-set, literal-prop, each_well_typed-prop bs)

  pub each_well_typed-prop : (bs : BoundTrees) → IsProp (EachWellTyped bs)
  each_well_typed-prop no_bound = Unit-prop
  each_well_typed-prop (bound b bs) = ×_prop (well_typed-prop b) (each_well_typed-prop bs)

mutual
  pub over-prop : (b : BoundTree) (s : LogicalType) → IsProp (Over b s)
  over-prop (scope t) s = Coded-set type_code t s
  over-prop (node t f bs) s = each_over-prop bs s

  pub each_over-prop : (bs : BoundTrees) (s : LogicalType) → IsProp (EachOver bs s)
  each_over-prop no_bound s = Unit-prop
  each_over-prop (bound b bs) s = ×_prop (over-prop b s) (each_over-prop bs s)

module _ (R : BoundTree → BoundTree → Type 0) where
  mutual
    pub normal-prop : (b : BoundTree) → IsProp (Normal R b)
    normal-prop (scope t) = hlevel
    normal-prop (node t f bs) = hlevel (each_normal-prop bs)

    each_normal-prop : (bs : BoundTrees) → IsProp (EachNormal R bs)
    each_normal-prop no_bound = Unit-prop
    each_normal-prop (bound b bs) = ×_prop (normal-prop b) (each_normal-prop bs)

pub plan-prop : (s : LogicalType) (u : BoundTree) (paths : List Path) (split : Option Parts) → IsProp (IsPlan s u paths split)
plan-prop s u paths split = hlevel (well_typed-prop, over-prop, normal-prop RuleAt, paths-set)
