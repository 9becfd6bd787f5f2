-- Which conjuncts of a tree are pushed to an engine, and what is left of the tree.
use Rattle.std.specs.Prelude.{Bool, ◌&&◌, List, Option, Some, None, filter, if◌then◌else◌}
use Rattle.std.specs.Option.{is_none}
use Rattle.vx_fn.specs.Functions.{binary, and_also, is_truth}
use Rattle.vx_tree.specs.Trees.{BoundTree, node, no_bound, bound, node_type}
use Rattle.vx_rewrite_fusing.specs.Conjuncts.{conjoined, conjuncts}
pub use Rattle.vx_rewrite_fusing.specs.Conjuncts.{tree_in}
use Rattle.vx_sql.specs.declared.dialect.Dialect.{Dialect}
use Rattle.vx_sql.specs.Unsupported.{first_unsupported}

-- whether the engine takes the tree as a condition: it is a truth value, and has an SQL text
abbrev pub is_pushed : Dialect → BoundTree → Bool
is_pushed d c = is_truth (node_type c) && is_none (first_unsupported d c)

-- the conjuncts of the tree that the engine takes, in their order
abbrev pub pushed : Dialect → BoundTree → List BoundTree
pushed d b = filter (is_pushed d) (conjuncts b)

-- a tree without those of its conjuncts that pass the test, none if all do
abbrev pub without : (BoundTree → Bool) → BoundTree → Option BoundTree
without p (node t (binary and_also) (bound l (bound r no_bound))) = conjoined (without p l) (without p r)
without p b = if p b then None else Some b

-- what is left of the tree for who evaluates the rows that the engine gives
abbrev pub residual : Dialect → BoundTree → Option BoundTree
residual d b = without (is_pushed d) b
