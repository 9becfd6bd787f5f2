-- The rows of a chunk of which a plan's source is true.
use Rattle.std.specs.Prelude.{◌≡◌, ◌≢◌, Bool, true, false, List, map, Result, MatchResult, IsErrOf}
use Rattle.vx_dtype.specs.declared.error.VortexError.{VortexError}
use Rattle.vx_dtype.specs.declared.error.VortexError.TheVariants.{OutOfMemory, ScopeMismatch, NotBool}
use Rattle.vx_value.specs.Columns.{Batch}
use Rattle.vx_value.specs.Types.{LogicalType}
use Rattle.vx_fn.specs.Functions.{is_truth}
use Rattle.vx_fn.specs.Values.{is_true}
use Rattle.vx_tree.specs.Faults.{HasNoFault}
use Rattle.vx_tree.specs.Meaning.{mean}
use Rattle.vx_tree.specs.Trees.{Tree, BoundTree, node_type}
use Rattle.vx_rewrite_core.specs.Keeps.{Keeps}
use Rattle.vx_query_split.specs.Sources.{IsBound}
use Rattle.vx_prune_tree.specs.Stats.{Facts, Describes}
use Rattle.vx_prune_tree.specs.Verdicts.{verdict_in}
use Rattle.vx_prune_tree.specs.declared.verdicts.Verdict.TheVariants.{Unknown}

-- for each row whether the source is true there
abbrev pub true_of : Tree → Batch → List Bool
true_of e c = map (λ v. is_true (mean e c.type v)) c.rows

-- the mask, where there is one, has the rows at which that source is true
abbrev pub HasRowsOf : Tree → Batch → Result (List Bool) VortexError → Type 0
HasRowsOf e c result = MatchResult result (λ m. m ≡ true_of e c) (λ y. y ≡ OutOfMemory)

-- for each source that the tree u keeps, bound, and that doesn't fault on the batch, the rows at which it is true
abbrev pub SelectsRows : BoundTree → Batch → Result (List Bool) VortexError → Type 0
SelectsRows u c result = (e : Tree) (b : BoundTree) → IsBound e c.type b → Keeps b u → HasNoFault b c.rows → HasRowsOf e c result

-- a mask where the tree doesn't fault on the batch, unless memory ran out, and, where the verdict isn't sure, none where it does
abbrev pub IsRefusedWhereUnsure : Facts → BoundTree → Batch → Result (List Bool) VortexError → Type 0
IsRefusedWhereUnsure facts u c result =
    (HasNoFault u c.rows → MatchResult result (λ m. Unit {0}) (λ y. y ≡ OutOfMemory)) ×
    (verdict_in facts u ≡ Unknown → MatchResult result (λ m. HasNoFault u c.rows) (λ y. Unit {0}))

-- where the verdict is sure no fault is answered
abbrev pub IsSureWithout : Facts → BoundTree → Result (List Bool) VortexError → Type 0
IsSureWithout facts u result = verdict_in facts u ≢ Unknown → MatchResult result (λ m. Unit {0}) (λ y. y ≡ OutOfMemory)

-- all that a selection of rows promises, over a batch that a reader stands for, and that the statistics describe
pub record Selected (s : LogicalType) (u : BoundTree) (facts : Facts) (c : Batch) (r : Result (List Bool) VortexError) : Type 0 where
  pub mismatch : c.type ≢ s → IsErrOf r ScopeMismatch
  pub not_bool : c.type ≡ s → is_truth (node_type u) ≡ false → IsErrOf r NotBool
  pub rows : c.type ≡ s → is_truth (node_type u) ≡ true → Describes facts c.type c.rows → SelectsRows u c r
  pub faults : c.type ≡ s → is_truth (node_type u) ≡ true → IsRefusedWhereUnsure facts u c r
  pub sure : c.type ≡ s → is_truth (node_type u) ≡ true → IsSureWithout facts u r
