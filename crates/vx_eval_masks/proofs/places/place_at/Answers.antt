use Rattle.std.proofs.Common.{arith}
use Rattle.vx_eval_masks.proofs.Apart.{none_at}
use Rattle.vx_eval_masks.proofs.places.place_at.Goals as goal

pub returns : goal.returns
returns c = none_at c.args.masks.now c.args.row (λ j h. c.loop-place.invariant j (omega arith))
