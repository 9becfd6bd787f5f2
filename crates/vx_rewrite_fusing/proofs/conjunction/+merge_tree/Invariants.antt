use Rattle.vx_tree.specs.Nodes.{size_of}
use Rattle.vx_tree.specs.Trees.{unbound}
use Rattle.vx_tree.specs.Views.{bound_of}
use Rattle.vx_rewrite_fusing.proofs.conjunction.+merge_tree.Given as goal

abbrev pub decreases-merge_tree : goal.decreases-merge_tree
decreases-merge_tree l = size_of (unbound (bound_of l.b.now))
