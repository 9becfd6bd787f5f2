use Rattle.std.proofs.Common.{◌≡◌, ◌∙◌, ap, sym, length, rules}
use Rattle.vx_array.specs.Rows.{lanes_rows}
use Rattle.vx_array_kernels.specs.Choices.{blended}
use Rattle.vx_array_kernels.proofs.Chosen.{truths_long, truths_put}
use Rattle.vx_array_kernels.proofs.truths.TruthsBlend.put.Goals as goal

pub put_bits-requires-clause-mask : goal.put_bits-requires-clause-mask
put_bits-requires-clause-mask c = c.requires.mask ∙ truths_long c.self.inside.valid c.self.inside.bits c.args.self.now c.self.view_is

pub put_bits-requires-clause-other : goal.put_bits-requires-clause-other
put_bits-requires-clause-other c =
    let made : c.in-Some.other ≡ lanes_rows c.args.lanes.now = search rules in
    sym (truths_long c.other.inside.valid c.other.inside.bits c.in-Some.other c.other.view_is) ∙ ap length made ∙ c.requires.lanes ∙ truths_long c.self.inside.valid c.self.inside.bits c.args.self.now c.self.view_is

pub put_bits-requires-2-clause-mask : goal.put_bits-requires-2-clause-mask
put_bits-requires-2-clause-mask c = c.requires.mask ∙ truths_long c.self.inside.valid c.self.inside.bits c.args.self.now c.self.view_is ∙ sym c.self.invariant

pub put_bits-requires-2-clause-other : goal.put_bits-requires-2-clause-other
put_bits-requires-2-clause-other c =
    let made : c.in-Some.other ≡ lanes_rows c.args.lanes.now = search rules in
    c.other.invariant ∙ sym (truths_long c.other.inside.valid c.other.inside.bits c.in-Some.other c.other.view_is) ∙ ap length made ∙ c.requires.lanes ∙ truths_long c.self.inside.valid c.self.inside.bits c.args.self.now c.self.view_is ∙ sym c.self.invariant

pub returns : goal.returns
returns c = λ _.
    let made : c.in-Some.other ≡ lanes_rows c.args.lanes.now = search rules in
    truths_put c.args.mask.now c.self.inside.valid c.self.inside.bits c.other.inside.valid c.other.inside.bits c.put_bits-2.new.bits c.put_bits.new.bits c.in-Some.other c.args.self.now c.self.view_is c.other.view_is c.self.invariant
    (sym (truths_long c.other.inside.valid c.other.inside.bits c.in-Some.other c.other.view_is) ∙ ap length made ∙ c.requires.lanes ∙ truths_long c.self.inside.valid c.self.inside.bits c.args.self.now c.self.view_is) c.put_bits-2.ensures c.put_bits.ensures
    ∙ ap (λ l. blended c.args.mask.now l c.args.self.now) made
