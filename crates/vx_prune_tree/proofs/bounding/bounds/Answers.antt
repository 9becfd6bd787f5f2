use Rattle.vx_tree.specs.Views.{bound_of}
use Rattle.vx_prune_tree.proofs.Holding.{bounds-hold}
use Rattle.vx_prune_tree.proofs.bounding.bounds.Goals as goal

pub returns-clause-hold : goal.returns-clause-hold
returns-clause-hold c = bounds-hold c.args.stats.now (bound_of c.args.e.now) c.requires
