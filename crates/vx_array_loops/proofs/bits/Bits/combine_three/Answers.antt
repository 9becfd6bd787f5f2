use Rattle.std.proofs.Common.{◌≡◌, ℕ, sym, ap, ◌∙◌, length, arith, get_or, false}
use Rattle.std.proofs.lemmas.List.{with_items_is}
use Rattle.vx_array_loops.specs.WordBits.{first_bits, each_row}
use Rattle.vx_array_loops.proofs.RowBits.{combined_four, same_len, seen, length-first_bits}
use Rattle.vx_array_loops.proofs.bits.Bits.combine_three.Goals as goal

pub combine_four-requires-clause-seconds : goal.combine_four-requires-clause-seconds
combine_four-requires-clause-seconds g c =
    let same = same_len c.self.inside.len c.second.inside.len c.self.inside.words.items c.second.inside.words.items c.args.self.now c.args.second.now c.self.view_is c.second.view_is c.requires.second in
    omega (arith, same, c.self.invariant, c.second.invariant, ap length c.as_slice.ensures.value, ap length c.as_mut_slice.ensures.value)

pub combine_four-requires-clause-thirds : goal.combine_four-requires-clause-thirds
combine_four-requires-clause-thirds g c =
    let same = same_len c.self.inside.len c.third.inside.len c.self.inside.words.items c.third.inside.words.items c.args.self.now c.args.third.now c.self.view_is c.third.view_is c.requires.third in
    omega (arith, same, c.self.invariant, c.third.invariant, ap length c.as_slice-2.ensures.value, ap length c.as_mut_slice.ensures.value)

pub combine_four-requires-clause-fourths : goal.combine_four-requires-clause-fourths
combine_four-requires-clause-fourths g c =
    let same = same_len c.self.inside.len c.fourth.inside.len c.self.inside.words.items c.fourth.inside.words.items c.args.self.now c.args.fourth.now c.self.view_is c.fourth.view_is c.requires.fourth in
    omega (arith, same, c.self.invariant, c.fourth.invariant, ap length c.as_slice-3.ensures.value, ap length c.as_mut_slice.ensures.value)

pub returns : goal.returns
returns g c = λ h gives.
    let n = c.self.inside.len in
    let new = c.combine_four.new.words in
    let us = c.self.inside.words.items in
    let xs = c.args.self.now in
    let row = λ (k : ℕ). h (get_or xs k false) (get_or c.args.second.now k false) (get_or c.args.third.now k false) (get_or c.args.fourth.now k false) in
    let long : n ≡ length xs = sym (length-first_bits n us) ∙ ap length c.self.view_is in
    let second = same_len n c.second.inside.len us c.second.inside.words.items xs c.args.second.now c.self.view_is c.second.view_is c.requires.second in
    let third = same_len n c.third.inside.len us c.third.inside.words.items xs c.args.third.now c.self.view_is c.third.view_is c.requires.third in
    let fourth = same_len n c.fourth.inside.len us c.fourth.inside.words.items xs c.args.fourth.now c.self.view_is c.fourth.view_is c.requires.fourth in
    ap (first_bits n) (with_items_is c.self.inside.words new (omega (arith, c.combine_four.auto.words, c.as_mut_slice.ensures.len)))
    ∙ combined_four h (λ p q r s w. goal.F-post g c.args.f p q r s w) n c.as_mut_slice.result.now c.as_slice.result.now c.as_slice-2.result.now c.as_slice-3.result.now new xs c.args.second.now c.args.third.now c.args.fourth.now (ap length c.as_mut_slice.ensures.value ∙ c.self.invariant)
    (seen n c.as_mut_slice.result.now xs (ap (first_bits n) c.as_mut_slice.ensures.value ∙ c.self.view_is))
    (seen n c.as_slice.result.now c.args.second.now (ap (first_bits n) c.as_slice.ensures.value ∙ ap (λ m. first_bits m c.second.inside.words.items) (sym second) ∙ c.second.view_is))
    (seen n c.as_slice-2.result.now c.args.third.now (ap (first_bits n) c.as_slice-2.ensures.value ∙ ap (λ m. first_bits m c.third.inside.words.items) (sym third) ∙ c.third.view_is))
    (seen n c.as_slice-3.result.now c.args.fourth.now (ap (first_bits n) c.as_slice-3.ensures.value ∙ ap (λ m. first_bits m c.fourth.inside.words.items) (sym fourth) ∙ c.fourth.view_is))
    c.combine_four.ensures gives ∙ ap (λ m. each_row m row) long
