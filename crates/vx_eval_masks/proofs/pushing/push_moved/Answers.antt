use Rattle.std.proofs.Common.{◌≡◌, ◌≤◌, ap, arith, rules, length, get_or, true, false}
use Rattle.std.proofs.lemmas.Grind.{common_steps}
use Rattle.vx_value.specs.Views.{value_of}
use Rattle.vx_eval_masks.proofs.Writing.{row_pushed, moved_is, left_more, on_more}
use Rattle.vx_eval_masks.proofs.pushing.push_moved.Goals as goal

pub loop-i-preserved : goal.loop-i-preserved
loop-i-preserved c =
    let on : get_or c.args.mask.now c.loop-i.i false ≡ true = search rules in
    let high : c.limit-end.result ≤ length c.as_slice-bits.result.now = c.limit-end.ensures.high in
    let long : length c.as_slice-bits.result.now ≡ length c.args.mask.now = ap length c.as_slice-bits.ensures in
    record {
      on = on_more c.args.mask.now c.args.from c.loop-i.i c.loop-i.invariant.on on;
      long = grind (arith, common_steps);
      left = left_more _ c.loop-i.values.items c.loop-i.i _ c.loop-i.invariant.left;
      rows = λ h holds so_far. row_pushed value_of h _ _ c.loop-i.i _ (c.loop-i.invariant.rows h holds so_far) c.in_ok-push.ensures.items
          (moved_is _ c.loop-i.values.items c.loop-i.i _ (h c.loop-i.i) c.loop-i.invariant.left (omega arith) (cc (c.replace.ensures.value, c.index_mut.ensures.value)) (holds c.loop-i.i (omega arith) (omega arith) on));
    }
