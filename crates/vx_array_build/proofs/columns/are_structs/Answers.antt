use Rattle.std.proofs.Common.{arith, below_more, get_or, subst}
use Rattle.vx_value.specs.Types.{null}
use Rattle.vx_array_build.specs.Filled.{HasItems, rows_lent}
use Rattle.vx_array_build.proofs.Filling.{lent_at}
use Rattle.vx_array_build.proofs.columns.are_structs.Goals as goal

pub loop-i-preserved : goal.loop-i-preserved
loop-i-preserved c =
    below_more (λ k. HasItems c.args.count (get_or (rows_lent c.args.rows.now) k null)) c.loop-i.i c.loop-i.invariant
    (subst (HasItems c.args.count) (lent_at c.args.rows.now c.loop-i.i c.index-rows-i.result (omega arith) c.index-rows-i.is) (c.is_struct.ensures c.if-not-is_struct.false))
