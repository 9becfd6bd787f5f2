use Rattle.vx_tree.specs.Nodes.{size_of}
use Rattle.vx_tree.specs.Trees.{unbound}
use Rattle.vx_tree.specs.Views.{bound_of}
use Rattle.vx_rewrite_fusing.proofs.conjunction.+merge_rights.Given as goal

abbrev pub decreases-merge_rights : goal.decreases-merge_rights
decreases-merge_rights l = size_of (unbound (bound_of l.r.now))
