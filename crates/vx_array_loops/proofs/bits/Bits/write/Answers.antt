use Rattle.std.proofs.Common.{◌<◌, ap, ◌∙◌, length, arith}
use Rattle.std.proofs.lemmas.List.{with_items_is}
use Rattle.vx_array_loops.specs.WordBits.{bit}
use Rattle.vx_array_loops.proofs.RowBits.{length-first_bits, get_or-first_bits}
use Rattle.vx_array_loops.proofs.bits.Bits.write.Goals as goal

pub write_words-requires-clause-call : goal.write_words-requires-clause-call
write_words-requires-clause-call g c = λ k lt. c.requires k (omega (arith, ap length c.self.view_is, length-first_bits c.self.inside.len c.self.inside.words.items))

pub returns-clause-each : goal.returns-clause-each
returns-clause-each g c = λ k x lt is.
    let within : k < c.self.inside.len = omega (arith, ap length c.self.view_is, length-first_bits c.self.inside.len c.self.inside.words.items) in
    let new = c.write_words.new.words in
    let here = with_items_is c.self.inside.words new (omega (arith, c.write_words.auto.words, c.as_mut_slice.ensures.len)) in
    c.write_words.ensures k x within (is ∙ get_or-first_bits c.self.inside.len _ k within ∙ ap (λ l. bit l k) here)
