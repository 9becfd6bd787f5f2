use Rattle.std.proofs.Common.{◌≡◌, ap, sym, ◌∙◌, arith, below_more, false, get_or}
use Rattle.vx_value.specs.Types.{is_null_datum, null}
use Rattle.vx_array_build.specs.Filled.{rows_lent}
use Rattle.vx_array_build.proofs.Filling.{lent_at}
use Rattle.vx_array_build.proofs.filled.none_is_null.Goals as goal

pub loop-i-preserved : goal.loop-i-preserved
loop-i-preserved c =
    below_more (λ k. is_null_datum (get_or (rows_lent c.args.rows.now) k null) ≡ false) c.loop-i.i c.loop-i.invariant
    (ap is_null_datum (sym (lent_at c.args.rows.now c.loop-i.i c.index-rows-i.result (omega arith) c.index-rows-i.is)) ∙ sym c.if-is_null.ensures)
