use Rattle.std.proofs.Common.{sym, ap, ◌∙◌, length}
use Rattle.vx_array_loops.specs.WordBits.{words_for, first_bits}
use Rattle.vx_array_loops.proofs.RowBits.{length-first_bits}
use Rattle.vx_array_loops.proofs.bits.Bits.words.Goals as goal

pub returns-clause-long : goal.returns-clause-long
returns-clause-long c = ap length c.as_slice.ensures.value ∙ c.self.invariant ∙ ap words_for (sym (length-first_bits c.self.inside.len c.self.inside.words.items) ∙ ap length c.self.view_is)

pub returns-clause-bits : goal.returns-clause-bits
returns-clause-bits c =
    let long = sym (length-first_bits c.self.inside.len c.self.inside.words.items) ∙ ap length c.self.view_is in
    ap (first_bits (length c.args.self.now)) c.as_slice.ensures.value ∙ ap (λ n. first_bits n c.self.inside.words.items) (sym long) ∙ c.self.view_is
