-- Nodes over literals.
use Rattle.std.specs.Prelude.{Bool, false, ◌&&◌}
use Rattle.vx_tree.specs.Trees.{BoundTree, node}
use Rattle.vx_rewrite_rule_laws.specs.Folding.{are_literals, is_computed}

-- whether the node's function is computed, and all its children are literals
abbrev pub is_constant : BoundTree → Bool
is_constant (node t f xs) = is_computed f && are_literals xs
is_constant _ = false
