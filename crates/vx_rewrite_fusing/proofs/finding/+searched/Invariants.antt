use Rattle.vx_tree.specs.Nodes.{size_of}
use Rattle.vx_tree.specs.Trees.{unbound}
use Rattle.vx_tree.specs.Views.{bound_of}
use Rattle.vx_rewrite_fusing.proofs.finding.+searched.Given as goal

abbrev pub decreases-searched : goal.decreases-searched
decreases-searched l = size_of (unbound (bound_of l.b.now))
