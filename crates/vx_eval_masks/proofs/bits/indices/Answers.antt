use Rattle.std.proofs.Common.{◌≡◌, rules, get_or, true, false}
use Rattle.vx_eval_masks.proofs.MaskRuns.{row_kept, row_pushed}
use Rattle.vx_eval_masks.proofs.bits.indices.Goals as goal

pub loop-i-preserved-then-not-bits-i : goal.loop-i-preserved-then-not-bits-i
loop-i-preserved-then-not-bits-i c =
    let off : get_or c.args.bits.now c.loop-i.i false ≡ false = search rules in
    row_kept c.args.bits.now c.loop-i.i c.loop-i.found.items c.loop-i.invariant off

pub loop-i-preserved : goal.loop-i-preserved
loop-i-preserved c =
    let on : get_or c.args.bits.now c.loop-i.i false ≡ true = search rules in
    row_pushed c.args.bits.now c.loop-i.i c.loop-i.found.items _ c.loop-i.invariant on c.in_ok-push.ensures.items
