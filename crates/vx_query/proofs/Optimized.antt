-- A split whose partitions were optimized.
use Rattle.std.proofs.Common.{◌≡◌, List, Option, Some, None, Result, true, subst}
use Rattle.vx_dtype.specs.Returns.{ReturnsOrOom}
use Rattle.vx_dtype.specs.declared.error.VortexError.{VortexError}
use Rattle.vx_value.specs.Columns.{Batch}
use Rattle.vx_value.specs.Types.{Name, LogicalType}
use Rattle.vx_rewrite_core.proofs.Keeping.{each_typed_after}
use Rattle.vx_tree.specs.Trees.{BoundTree, BoundTrees, WellTyped, EachWellTyped, Over, EachOver}
use Rattle.vx_eval.specs.Evaluation.{evaluation}
use Rattle.vx_rewrite_core.specs.NormalForms.{NormalForms}
use Rattle.vx_partition.specs.Partitioned.{IsBoundAgain}
use Rattle.vx_partition_laws.specs.Items.{struct_type}
use Rattle.vx_partition_laws.specs.Recombining.{Recombines}
use Rattle.vx_partition_laws.proofs.Rebound.{replaced_recombine}
use Rattle.vx_rewrite_rule_laws.specs.Rules.{RuleAt}
use Rattle.vx_query_split.specs.Division.{Parts, IsSplitOf, no_fields, not_covered, divided}
use Rattle.vx_query_split.specs.Splits.{split_evaluation}
use Rattle.vx_query.specs.Queries.{Runs, whole, uncovered, parted}
use Rattle.vx_query.proofs.Lists.{forms_keep}

-- a tree without a split is evaluated whole
pub unsplit : (c : Batch) (u : BoundTree) (r : Result Batch VortexError) (o : Option Parts) → IsSplitOf c.type u o → o ≡ None → ReturnsOrOom (λ x. x) r (evaluation u c) → Runs true u c r
unsplit c u r None (no_fields h) e a = whole h a
unsplit c u r None (not_covered h n) e a = uncovered h n a
unsplit c u r (Some p) s e a = absurd cc

-- and one with a split by it, with its partitions optimized and its root bound again to what they give
pub split_runs : (c : Batch) (u : BoundTree) (r : Result Batch VortexError) (p : Parts) (names : List Name) (forms : BoundTrees) (again : BoundTree) → IsSplitOf c.type u (Some p) → names ≡ p.names
    → NormalForms RuleAt p.partitions forms → IsBoundAgain p.root (struct_type p.names forms) again → ReturnsOrOom (λ x. x) r (split_evaluation names forms again c) → Runs true u c r
split_runs c u r p names forms again (divided h cov count split) e n b a =
    parted h cov (record { partitions = p.partitions; annotations = p.annotations; root = p.root; split = split; optimized = n; bound_again = b }) (subst (λ xs. ReturnsOrOom (λ x. x) r (split_evaluation xs forms again c)) e a)

module _ (names : List Name) (parts forms : BoundTrees) (root again u : BoundTree) (w : WellTyped root) (o : Over root (struct_type names parts)) (re : Recombines parts root u) (n : NormalForms RuleAt parts forms)
    (b : IsBoundAgain root (struct_type names forms) again) where
  -- the normal forms recombine
  pub recombined : Recombines forms again u
  recombined = (replaced_recombine names parts forms root again u (forms_keep RuleAt n) w o re b.source b.well_typed b.over).1

  -- and may be evaluated over what the tree is over
  pub forms_over : (t : LogicalType) → Over u t → EachOver forms t
  forms_over t over = recombined.scopes t over

pub forms_typed : {parts forms : BoundTrees} → NormalForms RuleAt parts forms → EachWellTyped forms
forms_typed n = each_typed_after (forms_keep RuleAt n)
