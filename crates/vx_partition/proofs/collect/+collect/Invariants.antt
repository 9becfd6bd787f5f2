use Rattle.std.proofs.Common.{◌≡◌, ◌++◌, drop, map, List, Option}
use Rattle.std.specs.Option.{option_copied}
use Rattle.std.specs.Slice.Iter.{iter_rest}
use Rattle.vx_tree.specs.Trees.{BoundTree}
use Rattle.vx_partition_laws.specs.Pieces.{Piece}
use Rattle.vx_tree.specs.Views.{bounds_of}
use Rattle.vx_partition.specs.Only.{annotations_met_in}
use Rattle.vx_partition.specs.Collecting.{groups_in, collected, SameGroups}
use Rattle.vx_partition.proofs.Collecting.{WalkedSo}
use Rattle.vx_partition.proofs.collect.+collect.Given as goal

abbrev pub invariant-collect_below-loop-child : goal.invariant-collect_below-loop-child
invariant-collect_below-loop-child g l =
    (only : BoundTree → Option _) (rest : List (Option _)) → map option_copied (iter_rest l.fn.met) ≡ annotations_met_in only (bounds_of l.children) ++ rest
    → (map option_copied (iter_rest l.met) ≡ annotations_met_in only (bounds_of (drop l.child-index l.children)) ++ rest)
    × ((before : List (Piece _)) → SameGroups g.A.PartialEq.eq (groups_in l.fn.groups) (collected g.A.PartialEq.eq before)
    → WalkedSo g.A.PartialEq.eq only before (bounds_of l.children) (bounds_of (drop l.child-index l.children)) l.some l.fn.marks.items l.marks.items (groups_in l.groups))
