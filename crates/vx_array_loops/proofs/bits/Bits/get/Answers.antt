use Rattle.std.proofs.Common.{ap, length, arith, ◌/◌, ◌<◌}
use Rattle.std.proofs.lemmas.List.{get_or_read}
use Rattle.vx_array_loops.proofs.RowBits.{length-first_bits, bit_read}
use Rattle.vx_array_loops.proofs.bits.Bits.get.Goals as goal

pub index-requires : goal.index-requires
index-requires c = omega (arith, ap length c.self.view_is, length-first_bits c.self.inside.len c.self.inside.words.items, c.self.inside.words.ok.0, c.self.invariant)

pub returns : goal.returns
returns c =
    let within : c.args.k / 64 < length c.self.inside.words.items = omega (arith, ap length c.self.view_is, length-first_bits c.self.inside.len c.self.inside.words.items, c.self.invariant) in
    bit_read c.self.inside.len c.self.inside.words.items c.args.self.now c.args.k c.index.result.now c.self.view_is c.requires (get_or_read c.self.inside.words.items (c.args.k / 64) c.index.result.now within c.index.ensures 0)
