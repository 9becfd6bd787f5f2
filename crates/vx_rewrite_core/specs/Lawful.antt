-- What makes a relation between bound trees a set of rules.
use Rattle.std.specs.Prelude.{◌<◌}
use Rattle.vx_tree.specs.Trees.{BoundTree, WellTyped}
use Rattle.vx_rewrite_core.specs.Keeps.{Keeps}
use Rattle.vx_rewrite_core.specs.Steps.{NormalBelow}
use Rattle.vx_rewrite_core.specs.Weights.{weight}

-- what R gives keeps the tree at which it is given, is lighter, and leaves the trees below the root normal where they were
pub record Lawful (R : BoundTree → BoundTree → Type 0) : Type 0 where
  pub keeps : (b u : BoundTree) → WellTyped b → R b u → Keeps b u
  pub lighter : (b u : BoundTree) → WellTyped b → R b u → weight u < weight b
  pub normal : (b u : BoundTree) → WellTyped b → R b u → NormalBelow R b → NormalBelow R u
