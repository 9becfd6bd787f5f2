use Rattle.std.proofs.Common.{◌+◌, ◌*◌}
use Rattle.vx_tree.specs.Nodes.{size_of}
use Rattle.vx_tree.specs.Trees.{unbound}
use Rattle.vx_tree.specs.Views.{bound_of}
use Rattle.vx_rewrite_fusing.proofs.merge.+merging.Given as goal

abbrev pub decreases-merge_pairs : goal.decreases-merge_pairs
decreases-merge_pairs l = 2 * size_of (unbound (bound_of l.r.now))

abbrev pub decreases-merge_second : goal.decreases-merge_second
decreases-merge_second l = 2 * size_of (unbound (bound_of l.second.now)) + 1
