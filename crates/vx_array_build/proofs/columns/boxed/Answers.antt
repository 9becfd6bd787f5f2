use Rattle.std.proofs.Common.{◌≡◌, arith, rules}
use Rattle.std.specs.Borrow.{Bor}
use Rattle.vx_value.specs.declared.value.Value.{Value}
use Rattle.vx_value.specs.Views.{value_of}
use Rattle.vx_array_build.proofs.Cutting.{row_added}
use Rattle.vx_array_build.proofs.columns.boxed.Goals as goal

pub loop-i-preserved : goal.loop-i-preserved
loop-i-preserved c =
    let here : value_of c.in_ok-clone.field-0 ≡ value_of c.index-rows-i.result.now = search rules in
    row_added value_of (λ (b : Bor Value). value_of b.now) c.loop-i.values.items c.push.new.self.items c.in_ok-clone.field-0 c.args.rows.now c.loop-i.i c.index-rows-i.result c.loop-i.invariant c.in_ok-push.ensures.items (omega arith) c.index-rows-i.is here
