use Rattle.std.proofs.Common.{false, length, rules, refl}
use Rattle.vx_array_loops.proofs.Filled.{made_as}
use Rattle.vx_array_loops.proofs.bits.Bits.from_bools.Goals as goal

pub returns : goal.returns
returns c = made_as false (length c.args.truths.now) c.args.truths.now _ c.tabulated.result refl c.tabulated.ensures.long c.tabulated.ensures.each (λ k x lt post. search rules)
