use Rattle.vx_tree.specs.Nodes.{size_of}
use Rattle.vx_tree.specs.Trees.{unbound}
use Rattle.vx_tree.specs.Views.{bound_of}
use Rattle.vx_rewrite_fusing.proofs.conjunction.+is_bounded.Given as goal

abbrev pub decreases-is_bounded : goal.decreases-is_bounded
decreases-is_bounded l = size_of (unbound (bound_of l.b.now))
