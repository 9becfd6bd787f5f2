use Rattle.std.proofs.Common.{sym, false, arith}
use Rattle.std.proofs.lemmas.List.{get_or_past}
use Rattle.vx_array.proofs.bit_part.BitPart.has.Goals as goal

pub returns : goal.returns
returns c = sym (get_or_past c.args.self.now c.args.k false (omega arith))
