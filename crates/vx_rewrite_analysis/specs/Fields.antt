-- The fields of the scope that a node reads itself.
use Rattle.std.specs.Prelude.{List, [], ◌∷◌, if◌then◌else◌}
use Rattle.vx_value.specs.Types.{Name}
use Rattle.vx_fn.specs.Functions.{get_item}
use Rattle.vx_tree.specs.Nodes.{is_root}
use Rattle.vx_tree.specs.Trees.{BoundTree, scope, node, BoundTrees, no_bound, bound, unbound}

-- the name, if a scope root is the only child
abbrev pub field_of_root : Name → BoundTrees → List Name
field_of_root a (bound b no_bound) = if is_root (unbound b) then a ∷ [] else []
field_of_root a bs = []

-- the field that a node takes of the scope root; of the scope root all names; else none
abbrev pub free_fields : BoundTree → List Name → List Name
free_fields (scope t) names = names
free_fields (node t (get_item a) bs) names = field_of_root a bs
free_fields (node t f bs) names = []
