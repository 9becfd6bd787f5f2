use Rattle.std.proofs.Common.{◌≡◌, ◌++◌, drop, map}
use Rattle.std.specs.Option.{option_copied}
use Rattle.vx_tree.specs.Views.{bounds_of}
use Rattle.vx_partition.specs.Only.{annotations_met_in, only_annotation}
use Rattle.vx_partition.proofs.met.+meet.Given as goal

abbrev pub invariant-meet_below-loop-child : goal.invariant-meet_below-loop-child
invariant-meet_below-loop-child g l =
    map option_copied l.met.items ++ annotations_met_in (only_annotation l.annotations) (bounds_of (drop l.child-index l.children))
    ≡ map option_copied l.fn.met.items ++ annotations_met_in (only_annotation l.annotations) (bounds_of l.children)
