use Rattle.vx_array_kernels.proofs.Bits.{turned_is}
use Rattle.vx_array_kernels.proofs.truths.turned.Goals as goal

pub returns : goal.returns
returns c = turned_is c.len.result c.in_ok-others.others c.args.bits.now _ c.len.ensures c.in_ok-others.ensures c.or_not_with.ensures
