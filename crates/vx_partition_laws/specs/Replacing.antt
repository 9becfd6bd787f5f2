-- What a root promises over partitions that were replaced.
use Rattle.std.specs.Prelude.{◌≡◌, List, Ok}
use Rattle.vx_value.specs.Types.{Name, LogicalType}
use Rattle.vx_value.specs.Joins.{Narrower}
use Rattle.vx_tree.specs.Trees.{BoundTree, BoundTrees, unbound, node_type, typed, WellTyped, Over}
use Rattle.vx_rewrite_core.specs.Keeps.{KeepsEach}
use Rattle.vx_partition_laws.specs.Items.{struct_type}
use Rattle.vx_partition_laws.specs.Recombining.{Recombines}

-- over partitions that keep the old ones the root has a type, and no wider one
abbrev pub ReplacedAreTyped : Type 0
ReplacedAreTyped = (names : List Name) (old new : BoundTrees) (root : BoundTree) →
    KeepsEach old new → WellTyped root → Over root (struct_type names old) →
    (t : LogicalType) × (typed (unbound root) (struct_type names new) ≡ Ok t) × Narrower t (node_type root)

-- and bound there it still recombines them
abbrev pub ReplacedRecombine : Type 0
ReplacedRecombine = (names : List Name) (old new : BoundTrees) (root again b : BoundTree) →
    KeepsEach old new → WellTyped root → Over root (struct_type names old) → Recombines old root b →
    unbound again ≡ unbound root → WellTyped again → Over again (struct_type names new) →
    Narrower (node_type again) (node_type root) × Recombines new again b
