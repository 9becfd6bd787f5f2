-- What a query promises.
use Rattle.std.specs.Prelude.{◌≡◌, Bool, List, Result, Ok, Err}
use Rattle.vx_dtype.specs.declared.error.VortexError.{VortexError}
use Rattle.vx_value.specs.Columns.{Batch}
use Rattle.vx_value.specs.Types.{LogicalType}
use Rattle.vx_tree.specs.Faults.{HasNoFault}
use Rattle.vx_tree.specs.Trees.{Tree, BoundTree, typed}
use Rattle.vx_rewrite.specs.declared.passes.Pass.{Pass}
use Rattle.vx_query_split.specs.Sources.{IsBound, IsMeantBy}
use Rattle.vx_query.specs.Queries.{IsRefusedWith, FaultsAlone, RunsPassed}

-- all that a query promises of its answer
pub record Promised (e : Tree) (c : Batch) (passes : List Pass) (split : Bool) (r : Result Batch VortexError) : Type 0 where
  pub refusal : (refusal : VortexError) → typed e c.type ≡ Err refusal → IsRefusedWith refusal r
  pub meaning : (b : BoundTree) → IsBound e c.type b → HasNoFault b c.rows → IsMeantBy e c r
  pub faults : (t : LogicalType) → typed e c.type ≡ Ok t → FaultsAlone r
  pub run : (b : BoundTree) → IsBound e c.type b → RunsPassed passes split b c r
