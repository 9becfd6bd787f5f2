use Rattle.std.proofs.Common.{false, rules, sym}
use Rattle.vx_array_loops.proofs.Filled.{filled_as}
use Rattle.vx_array_loops.proofs.bits.Bits.to_bools.Goals as goal

pub returns : goal.returns
returns c = filled_as false c.len.result c.args.self.now _ c.tabulated.result (sym c.len.ensures) c.tabulated.ensures.long c.tabulated.ensures.each (λ k x lt post. search rules)
