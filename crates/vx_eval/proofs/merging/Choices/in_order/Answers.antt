use Rattle.vx_eval.proofs.Lengths.{long_still}
use Rattle.vx_eval.proofs.merging.Choices.in_order.Goals as goal

pub push_stretch-requires-clause-columns : goal.push_stretch-requires-clause-columns
push_stretch-requires-clause-columns c = long_still c.args.count _ _ c.loop-next.invariant.long c.requires.columns
