use Rattle.std.proofs.Common.{◌≡◌, ◌++◌, ◌∷◌, drop, map}
use Rattle.std.specs.Prelude.{None, Option}
use Rattle.std.specs.Option.{option_copied}
use Rattle.vx_tree.specs.Trees.{BoundTree}
use Rattle.vx_rewrite_analysis.specs.Answered.{trees_of}
use Rattle.vx_partition.specs.Gathered.{IsOnly}
use Rattle.vx_partition.specs.Only.{annotations_met_in}
use Rattle.vx_partition.proofs.numbered.+meet_numbered.Given as goal

-- what was met so far, and what is met at the children that are left, is what was met before, none at the node, and what is met at all of them
abbrev pub invariant-loop-child : goal.invariant-loop-child
invariant-loop-child g l =
    (only : BoundTree → Option _) → IsOnly l.nodes only l.found
    → map option_copied l.met.items ++ annotations_met_in only (trees_of l.nodes (drop l.child-index l.child-items)) ≡ map option_copied l.fn.met.items ++ (None ∷ annotations_met_in only (trees_of l.nodes l.child-items))

abbrev pub decreases-meet_numbered : goal.decreases-meet_numbered
decreases-meet_numbered g l = l.number
