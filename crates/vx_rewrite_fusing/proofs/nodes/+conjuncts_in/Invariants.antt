use Rattle.vx_tree.specs.Nodes.{size_of}
use Rattle.vx_tree.specs.Trees.{unbound}
use Rattle.vx_tree.specs.Views.{bound_of}
use Rattle.vx_rewrite_fusing.proofs.nodes.+conjuncts_in.Given as goal

abbrev pub decreases-conjuncts_in : goal.decreases-conjuncts_in
decreases-conjuncts_in l = size_of (unbound (bound_of l.b.now))
