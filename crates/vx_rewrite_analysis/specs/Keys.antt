-- Maps whose keys are bound trees.
use Rattle.std.specs.Prelude.{Option}
use Rattle.std.specs.HashMap.{HashMap, get_by}
use Rattle.vx_tree.specs.Equality.{equal_bound}
use Rattle.vx_tree.specs.Exact.{keyed}
use Rattle.vx_tree.specs.Trees.{BoundTree}
use Rattle.vx_tree.specs.declared.exact.ExactBoundExpr.{ExactBoundExpr}

-- the bound tree that a key stands for
abbrev pub key_of : ExactBoundExpr → BoundTree
key_of k = keyed k

-- what a map has at a bound tree
abbrev pub entry_at : {X S : Type 0} → BoundTree → HashMap ExactBoundExpr X S → Option X
entry_at b m = get_by (λ k. equal_bound b (key_of k)) m
