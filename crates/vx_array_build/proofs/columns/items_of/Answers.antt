use Rattle.std.proofs.Common.{ap, ◌∙◌, arith}
use Rattle.vx_value.specs.Items.{item_at}
use Rattle.vx_array_build.specs.Filled.{rows_lent}
use Rattle.vx_array_build.proofs.Filling.{lent_at, lent_long, lent_more}
use Rattle.vx_array_build.proofs.columns.items_of.Goals as goal

pub loop-i-preserved : goal.loop-i-preserved
loop-i-preserved c =
    lent_more (item_at c.args.j) (rows_lent c.args.rows.now) c.loop-i.items.items c.push.new.self.items c.loop-i.i c.item_in.result c.loop-i.invariant c.in_ok-push.ensures.items (omega (arith, lent_long c.args.rows.now))
    (c.item_in.ensures ∙ ap (item_at c.args.j) (lent_at c.args.rows.now c.loop-i.i c.index-rows-i.result (omega arith) c.index-rows-i.is))
