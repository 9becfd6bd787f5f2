use Rattle.vx_tree.specs.Views.{bounds_of}
use Rattle.vx_rewrite_folding.proofs.Pairs.{none_left}
use Rattle.vx_rewrite_folding.proofs.cases.pairs_left.Goals as goal

pub returns : goal.returns
returns c = none_left c.loop-rest.rest.now (bounds_of c.args.trees.now) c.args.pairs c.loop-rest.left c.in_default.len_below c.requires c.loop-rest.invariant
