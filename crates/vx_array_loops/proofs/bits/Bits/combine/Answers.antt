use Rattle.std.proofs.Common.{ap, ◌∙◌, length, arith}
use Rattle.std.proofs.lemmas.List.{with_items_is}
use Rattle.vx_array_loops.specs.WordBits.{first_bits}
use Rattle.vx_array_loops.proofs.RowBits.{combined, same_len}
use Rattle.vx_array_loops.proofs.bits.Bits.combine.Goals as goal

pub combine_words-requires-clause-long : goal.combine_words-requires-clause-long
combine_words-requires-clause-long g c =
    let same = same_len c.self.inside.len c.other.inside.len c.self.inside.words.items c.other.inside.words.items c.args.self.now c.args.other.now c.self.view_is c.other.view_is c.requires.long in
    omega (arith, same, c.self.invariant, c.other.invariant, ap length c.as_slice.ensures.value, ap length c.as_mut_slice.ensures.value)

pub returns : goal.returns
returns g c = λ h gives.
    let n = c.self.inside.len in
    let new = c.combine_words.new.words in
    ap (first_bits n) (with_items_is c.self.inside.words new (omega (arith, c.combine_words.auto.words, c.as_mut_slice.ensures.len)))
    ∙ combined h (λ a b w. goal.F-post g c.args.f a b w) n c.other.inside.len c.as_mut_slice.result.now c.as_slice.result.now new c.args.self.now c.args.other.now (ap (first_bits n) c.as_mut_slice.ensures.value ∙ c.self.view_is) (ap (first_bits c.other.inside.len) c.as_slice.ensures.value ∙ c.other.view_is)
    c.requires.long (ap length c.as_mut_slice.ensures.value ∙ c.self.invariant) c.combine_words.ensures gives
