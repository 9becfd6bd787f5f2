use Rattle.std.proofs.Common.{◌≡◌, drop}
use Rattle.vx_value.specs.Views.{type_of}
use Rattle.vx_tree.specs.Trees.{node_types}
use Rattle.vx_tree.specs.Views.{bounds_of}
use Rattle.vx_tree.proofs.Bindings.{before}
use Rattle.vx_places.specs.Holes.{holes}
use Rattle.vx_places.proofs.holes.holes.Given as goal

abbrev pub invariant-loop-i : goal.invariant-loop-i
invariant-loop-i l =
    before l.nodes.items (holes (type_of l.scope) (drop l.i l.names) (node_types (bounds_of (drop l.i l.children)))) ≡ holes (type_of l.scope) l.names (node_types (bounds_of l.children))
