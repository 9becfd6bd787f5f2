-- What a row of the program shows.
use Rattle.vx_value.specs.Columns.{Batch}
use Rattle.vx_tree.specs.Trees.{Tree}

-- an expression, and the batch that it is evaluated on
pub record Sample : Type 0 where
  pub source : Tree
  pub batch : Batch
