use Rattle.std.proofs.Common.{arith}
use Rattle.vx_eval_masks.proofs.Pairs.{claimed_all, left_all}
use Rattle.vx_eval_masks.proofs.bits.claim.Goals as goal

pub returns-clause-claimed : goal.returns-clause-claimed
returns-clause-claimed c = claimed_all c.args.bits.now c.args.rest.now _ _ c.loop-i.i c.loop-i.invariant (omega (arith, c.loop-i.invariant.long)) c.requires

pub returns-clause-left : goal.returns-clause-left
returns-clause-left c = left_all c.args.bits.now c.args.rest.now _ _ c.loop-i.i c.loop-i.invariant (omega (arith, c.loop-i.invariant.long)) c.requires
