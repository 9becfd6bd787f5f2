-- What follows of a query from how its tree was evaluated.
use Rattle.std.proofs.Common.{◌≡◌, Bool, List, Option, Some, None, Result, Ok, Err, refl, inl, inr}
use Rattle.vx_dtype.specs.Returns.{ReturnsOrOom}
use Rattle.vx_dtype.specs.declared.error.VortexError.{VortexError}
use Rattle.vx_value.specs.Columns.{Batch}
use Rattle.vx_value.specs.Fits.{IsBatch}
use Rattle.vx_value.specs.Types.{Name}
use Rattle.vx_tree.specs.Faults.{HasNoFault, each_fault}
use Rattle.vx_tree.specs.Trees.{BoundTree, BoundTrees, WellTyped, Over, unbound}
use Rattle.vx_eval.specs.Evaluation.{evaluation}
use Rattle.vx_rewrite_core.specs.Keeps.{Keeps}
use Rattle.vx_rewrite.specs.declared.passes.Pass.{Pass}
use Rattle.vx_rewrite.proofs.Passing.{passed_keeps}
use Rattle.vx_query_split.specs.Division.{FieldsCover}
use Rattle.vx_query_split.specs.Sources.{IsMeantBy}
use Rattle.vx_query.specs.Queries.{FaultsAlone, IsOptimizedSplit, Runs, no_memory, whole, uncovered, parted, RunsPassed, not_passed, passed}
use Rattle.vx_query.specs.Refusals.{IsFault}
use Rattle.vx_query_split.specs.Splits.{joined_column, split_evaluation, fault_or}
use Rattle.vx_query.proofs.Faulting.{each_faults, evaluation_faults}
use Rattle.vx_query.proofs.Optimized.{recombined}
use Rattle.vx_query_split.proofs.Meant.{whole_means, split_means}

-- ---- where the source doesn't fault

module _ (b u : BoundTree) (c : Batch) (k : Keeps b u) (o : Over b c.type) (fit : IsBatch c.type c.rows) (quiet : HasNoFault b c.rows) where
  parted_means : (fields names : List Name) (forms : BoundTrees) (again : BoundTree) (r : Result Batch VortexError) → FieldsCover fields u → IsOptimizedSplit fields u names forms again
      → ReturnsOrOom (λ x. x) r (split_evaluation names forms again c) → IsMeantBy (unbound b) c r
  parted_means fields names forms again r cov split answer =
      let p = split.split.partitioned in
      let re = recombined names split.partitions forms split.root again u p.root_typed (p.over_partitions cov) (p.recombines cov) split.optimized split.bound_again in
      split_means b u c k o fit quiet names forms again r split.bound_again.well_typed split.bound_again.over re answer

  pub runs_mean : (split : Bool) (r : Result Batch VortexError) → Runs split u c r → IsMeantBy (unbound b) c r
  runs_mean split r (no_memory e) = rw e refl
  runs_mean split r (whole s a) = whole_means b u c k o fit quiet r a
  runs_mean split r (uncovered s n a) = whole_means b u c k o fit quiet r a
  runs_mean split r (parted {fields = fields} {names = names} {forms = forms} {again = again} s cov p a) = parted_means fields names forms again r cov p a

-- so for whatever the passes answered
pub passed_means : (passes : List Pass) (split : Bool) (b : BoundTree) (c : Batch) (r : Result Batch VortexError) → WellTyped b → Over b c.type → IsBatch c.type c.rows → HasNoFault b c.rows
    → RunsPassed passes split b c r → IsMeantBy (unbound b) c r
passed_means passes split b c r w o fit quiet (not_passed e) = rw e refl
passed_means passes split b c r w o fit quiet (passed {u = u} p run) = runs_mean b u c (passed_keeps passes b u w p) o fit quiet split r run

-- ---- and where it does

evaluated : (u : BoundTree) (c : Batch) (r : Result Batch VortexError) → ReturnsOrOom (λ x. x) r (evaluation u c) → FaultsAlone r
evaluated u c (Ok x) a = tt
evaluated u c (Err y) (inl m) = inl m
evaluated u c (Err y) (inr e) = inr (evaluation_faults u c y e)

split_evaluated : (names : List Name) (parts : BoundTrees) (root : BoundTree) (c : Batch) (r : Result Batch VortexError) → ReturnsOrOom (λ x. x) r (split_evaluation names parts root c) → FaultsAlone r
split_evaluated names parts root c (Ok x) a = tt
split_evaluated names parts root c (Err y) (inl m) = inl m
split_evaluated names parts root c (Err y) (inr e) = inr (go (each_fault parts c.rows) refl e)
  where
    go : (o : Option VortexError) → each_fault parts c.rows ≡ o → fault_or o (evaluation root (joined_column names parts c.rows)) ≡ Err y → IsFault y
    go None q e = evaluation_faults root (joined_column names parts c.rows) y e
    go (Some fault) q e = each_faults parts c.rows y cc

runs_fault : (split : Bool) (u : BoundTree) (c : Batch) (r : Result Batch VortexError) → Runs split u c r → FaultsAlone r
runs_fault split u c r (no_memory e) = rw e (inl refl)
runs_fault split u c r (whole s a) = evaluated u c r a
runs_fault split u c r (uncovered s n a) = evaluated u c r a
runs_fault split u c r (parted {names = names} {forms = forms} {again = again} s cov p a) = split_evaluated names forms again c r a

pub passed_faults : (passes : List Pass) (split : Bool) (b : BoundTree) (c : Batch) (r : Result Batch VortexError) → RunsPassed passes split b c r → FaultsAlone r
passed_faults passes split b c r (not_passed e) = rw e (inl refl)
passed_faults passes split b c r (passed p run) = runs_fault split _ c r run
