use Rattle.vx_tree.specs.Nodes.{size_of}
use Rattle.vx_tree.specs.Trees.{unbound}
use Rattle.vx_tree.specs.Views.{bound_of}
use Rattle.vx_rewrite_fusing.proofs.rest.+left_over.Given as goal

abbrev pub decreases-left_over : goal.decreases-left_over
decreases-left_over l = size_of (unbound (bound_of l.tree.now))
