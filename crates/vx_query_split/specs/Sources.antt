-- Sources bound to a scope, and answers with their meaning.
use Rattle.std.specs.Prelude.{◌≡◌, Result, MatchResult, map}
use Rattle.vx_dtype.specs.declared.error.VortexError.{VortexError}
use Rattle.vx_dtype.specs.declared.error.VortexError.TheVariants.{OutOfMemory}
use Rattle.vx_value.specs.Columns.{Batch}
use Rattle.vx_value.specs.Types.{LogicalType}
use Rattle.vx_tree.specs.Meaning.{mean}
use Rattle.vx_tree.specs.Trees.{Tree, BoundTree, unbound, WellTyped, Over}

-- b is the source e with the type of each node, over a scope of type s
pub record IsBound (e : Tree) (s : LogicalType) (b : BoundTree) : Type 0 where
  pub source : unbound b ≡ e
  pub well_typed : WellTyped b
  pub over : Over b s

-- the call gave the column with the meaning of e in each row, unless memory ran out
abbrev pub IsMeantBy : Tree → Batch → Result Batch VortexError → Type 0
IsMeantBy e c result = MatchResult result (λ x. x.rows ≡ map (mean e c.type) c.rows) (λ y. y ≡ OutOfMemory)
