use Rattle.std.proofs.Common.{◌≡◌, ◌∙◌, ap, map, get_or, arith}
use Rattle.std.specs.List.{range_with_len}
use Rattle.vx_value.specs.Items.{item_at}
use Rattle.vx_value.specs.Types.{null}
use Rattle.vx_array.specs.Rows.{lanes_rows}
use Rattle.vx_array.proofs.Reading.{value_more}
use Rattle.vx_array.proofs.Itemed.{all_items}
use Rattle.vx_array.proofs.items.copied_items.Goals as goal

pub loop-i-preserved : goal.loop-i-preserved
loop-i-preserved c =
    value_more (λ k. item_at c.args.place (get_or (lanes_rows c.args.lanes.now) k null)) c.loop-i.items.items c.push.new.self.items c.loop-i.i c.in_ok-item_in.field-0 c.loop-i.invariant c.in_ok-push.ensures.items c.in_ok-item_in.ensures

pub returns : goal.returns
returns c =
    let all : c.loop-i.i ≡ c.len-count.result = omega arith in
    c.loop-i.invariant ∙ ap (λ n. map (λ k. item_at c.args.place (get_or (lanes_rows c.args.lanes.now) k null)) (range_with_len 0 n)) all ∙ all_items c.args.place (lanes_rows c.args.lanes.now) c.len-count.result c.len-count.ensures
