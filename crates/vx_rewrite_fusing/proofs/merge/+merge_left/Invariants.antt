use Rattle.vx_tree.specs.Nodes.{size_of}
use Rattle.vx_tree.specs.Trees.{unbound}
use Rattle.vx_tree.specs.Views.{bound_of}
use Rattle.vx_rewrite_fusing.proofs.merge.+merge_left.Given as goal

abbrev pub decreases-merge_left : goal.decreases-merge_left
decreases-merge_left l = size_of (unbound (bound_of l.l.now))
