use Rattle.std.proofs.Common.{arith, refl}
use Rattle.std.specs.Borrow.{Bor}
use Rattle.vx_value.specs.declared.value.Value.{Value}
use Rattle.vx_value.specs.Views.{value_of}
use Rattle.vx_array_build.proofs.Cutting.{row_added}
use Rattle.vx_array_build.proofs.columns.lent.Goals as goal

pub loop-i-preserved : goal.loop-i-preserved
loop-i-preserved c =
    row_added (λ (b : Bor Value). value_of b.now) value_of c.loop-i.rows.items c.push.new.self.items _ c.args.values.now c.loop-i.i c.index-values-i.result c.loop-i.invariant c.in_ok-push.ensures.items (omega arith) c.index-values-i.is refl
