use Rattle.std.proofs.Common.{◌∙◌, ap, sym, map}
use Rattle.std.proofs.Math.ListN.{replicate}
use Rattle.vx_value.specs.Items.{item_at}
use Rattle.vx_value.specs.Views.{value_of}
use Rattle.vx_array.specs.Rows.{lanes_rows}
use Rattle.vx_array.proofs.Held.{rows-Same}
use Rattle.vx_array.proofs.Itemed.{same_items}
use Rattle.vx_array.proofs.lanes.Lanes.each_item.Goals as goal

pub returns-in-Same : goal.returns-in-Same
returns-in-Same c =
    let s = c.in-Same in
    let k = c.args.place in
    rows-Same c.in_ok-new.field-0 s.count
    ∙ ap (replicate s.count) (ap value_of c.in_ok-new.ensures.ok ∙ c.in_ok-item.ensures ∙ ap (λ v. item_at k (value_of v)) c.as_ref.ensures)
    ∙ same_items k s.count (value_of s.value.value) ∙ ap (map (item_at k)) (sym (ap lanes_rows s.is ∙ rows-Same s.value s.count))
