-- What a query answers.
use Rattle.std.specs.Prelude.{◌≡◌, ◌⊎◌, Bool, List, Some, None, Result, Err, MatchResult}
use Rattle.vx_dtype.specs.Returns.{ReturnsOrOom}
use Rattle.vx_dtype.specs.declared.error.VortexError.{VortexError}
use Rattle.vx_dtype.specs.declared.error.VortexError.TheVariants.{OutOfMemory}
use Rattle.vx_value.specs.Columns.{Batch}
use Rattle.vx_value.specs.Types.{Name}
use Rattle.vx_tree.specs.Trees.{BoundTree, BoundTrees}
use Rattle.vx_eval.specs.Evaluation.{evaluation}
use Rattle.vx_rewrite_core.specs.NormalForms.{NormalForms}
use Rattle.vx_partition.specs.Partitioned.{IsBoundAgain}
use Rattle.vx_partition_laws.specs.Items.{struct_type}
use Rattle.vx_rewrite.specs.Passes.{Passed}
use Rattle.vx_rewrite.specs.declared.passes.Pass.{Pass}
use Rattle.vx_rewrite_rule_laws.specs.Rules.{RuleAt}
use Rattle.vx_query_split.specs.Division.{split_names, FieldsCover, IsSplitByFields}
use Rattle.vx_query_split.specs.Splits.{split_evaluation}
use Rattle.vx_query.specs.Refusals.{IsFault}

-- the call gave that refusal, unless memory ran out
abbrev pub IsRefusedWith : VortexError → Result Batch VortexError → Type 0
IsRefusedWith refusal result = MatchResult result (λ x. ⊥) (λ y. (y ≡ OutOfMemory) ⊎ (y ≡ refusal))

-- the call gave a column or a fault, unless memory ran out
abbrev pub FaultsAlone : Result Batch VortexError → Type 0
FaultsAlone result = MatchResult result (λ x. Unit {0}) (λ y. (y ≡ OutOfMemory) ⊎ IsFault y)

-- the tree u is split by these fields, its partitions are optimized to these forms, and its root is bound again to what they give
pub record IsOptimizedSplit (fields : List Name) (u : BoundTree) (names : List Name) (forms : BoundTrees) (again : BoundTree) : Type 0 where
  pub partitions : BoundTrees
  pub annotations : List Name
  pub root : BoundTree
  pub split : IsSplitByFields fields u names partitions annotations root
  pub optimized : NormalForms RuleAt partitions forms
  pub bound_again : IsBoundAgain root (struct_type names forms) again

-- how the tree u is evaluated: split by the fields that its nodes read where that is asked, the scope is a struct and the fields cover it, else whole
pub data Runs (split : Bool) (u : BoundTree) (c : Batch) (result : Result Batch VortexError) : Type 0 where
  no_memory : result ≡ Err OutOfMemory → Runs split u c result
  whole : split_names split c.type ≡ None → ReturnsOrOom (λ x. x) result (evaluation u c) → Runs split u c result
  uncovered : {fields : List Name} → split_names split c.type ≡ Some fields →
      (FieldsCover fields u → ⊥) → ReturnsOrOom (λ x. x) result (evaluation u c) → Runs split u c result
  parted : {fields names : List Name} {forms : BoundTrees} {again : BoundTree} → split_names split c.type ≡ Some fields →
      FieldsCover fields u → IsOptimizedSplit fields u names forms again → ReturnsOrOom (λ x. x) result (split_evaluation names forms again c) → Runs split u c result

-- some tree that the passes may answer for b is evaluated so, unless memory ran out
pub data RunsPassed (passes : List Pass) (split : Bool) (b : BoundTree) (c : Batch) (result : Result Batch VortexError) : Type 0 where
  not_passed : result ≡ Err OutOfMemory → RunsPassed passes split b c result
  passed : {u : BoundTree} → Passed passes b u → Runs split u c result → RunsPassed passes split b c result
