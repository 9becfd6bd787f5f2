use Rattle.std.proofs.Common.{rules, ◌≡◌, ◌∙◌, ap, length, map}
use Rattle.std.proofs.lemmas.List.{length-map}
use Rattle.vx_value.specs.Types.{int}
use Rattle.vx_array.proofs.Held.{rows-Numbers}
use Rattle.vx_array.specs.Kinds.{numbers_in}
use Rattle.vx_array_kernels.proofs.Chosen.{masked_numbers}
use Rattle.vx_array_kernels.proofs.number_rows.NumberRowsBlend.into_lanes.Goals as goal

pub returns : goal.returns
returns g c =
    let ns = numbers_in c.numbers-numbers.result in
    let counted : length c.self.inside.numbers.items ≡ c.len.result = search rules in
    let long : length (map int ns) ≡ c.len.result = length-map ns int ∙ ap length c.numbers-numbers.ensures ∙ length-map c.in_ok-new.field-0 g.T.Number.number ∙ ap length c.in_ok-new.ensures ∙ counted in
    rows-Numbers c.numbers-numbers.result _ ∙ c.in_ok-validity.ensures.shown (map int ns) long
    ∙ masked_numbers g.T.Number.number c.self.inside.valid c.self.inside.numbers.items c.in_ok-new.field-0 ns c.args.self c.numbers-numbers.ensures c.in_ok-new.ensures c.self.invariant c.self.view_is
