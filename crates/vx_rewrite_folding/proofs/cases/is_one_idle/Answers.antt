use Rattle.vx_tree.specs.Views.{bounds_of}
use Rattle.vx_rewrite_folding.proofs.Pairs.{none_idle}
use Rattle.vx_rewrite_folding.proofs.cases.is_one_idle.Goals as goal

pub returns : goal.returns
returns c = none_idle c.loop-rest.rest.now (bounds_of c.args.trees.now) c.in_default.len_below c.loop-rest.invariant
