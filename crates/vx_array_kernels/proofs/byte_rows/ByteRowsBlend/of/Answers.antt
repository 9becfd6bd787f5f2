use Rattle.std.proofs.Common.{◌≡◌, ◌∙◌, ap, [], ◌∷◌, ◌++◌, rules}
use Rattle.vx_array.specs.Rows.{lanes_each, lanes_rows}
use Rattle.vx_array_kernels.proofs.Picking.{one_picked, zeros}
use Rattle.vx_array_kernels.proofs.byte_rows.ByteRowsBlend.of.Goals as goal

pub returns : goal.returns
returns g c =
    let rows = lanes_rows c.args.lanes.now in
    let copy = c.in_ok-clone.field-0 in
    let same : lanes_rows copy ≡ rows = search rules in
    let one : lanes_each c.push.new.self.items ≡ rows ∷ [] = ap lanes_each (c.in_ok-push.ensures.items ∙ ap (λ ls. ls ++ copy ∷ []) c.new-columns.ensures.items) ∙ ap (λ r. r ∷ []) same in
    let none : c.in_ok-choices.choices.items ≡ zeros c.args.count = search rules in
    one_picked c.args.count c.push.new.self.items rows c.in_ok-choices.choices.items one none c.requires
