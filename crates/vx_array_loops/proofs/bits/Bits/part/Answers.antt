use Rattle.std.proofs.Common.{◌≡◌, ◌+◌, ◌*◌, ◌<◌, ◌∙◌, subst, sym, rules, get_or, false}
use Rattle.vx_array_loops.specs.WordBits.{bit_of}
use Rattle.vx_array_loops.proofs.Joined.{part_is}
use Rattle.vx_array_loops.proofs.bits.Bits.part.Goals as goal

pub returns : goal.returns
returns c =
    part_is c.args.self.now c.args.from c.args.len c.in_ok-words.words.items c.requires (c.in_ok-words.ensures.long ∙ c.div_ceil.ensures)
    (λ j w lt is i few inside.
    let post = c.in_ok-words.ensures.each j w (subst (λ n. j < n) (sym c.div_ceil.ensures) lt) is in
    let told : bit_of w i ≡ get_or c.args.self.now (c.args.from + 64 * j + i) false = search rules in
    told)
