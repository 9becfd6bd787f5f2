use Rattle.vx_tree.specs.Nodes.{size_of}
use Rattle.vx_tree.specs.Trees.{unbound}
use Rattle.vx_tree.specs.Views.{bound_of}
use Rattle.vx_rewrite_fusing.proofs.conjunction.+merge_lefts.Given as goal

abbrev pub decreases-merge_lefts : goal.decreases-merge_lefts
decreases-merge_lefts l = size_of (unbound (bound_of l.l.now))
