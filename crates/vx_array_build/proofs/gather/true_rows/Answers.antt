use Rattle.std.proofs.Common.{◌≡◌, get_or, true, false, rules}
use Rattle.vx_array_build.proofs.Taking.{row_kept, row_pushed}
use Rattle.vx_array_build.proofs.gather.true_rows.Goals as goal

pub loop-i-preserved-then-not-get : goal.loop-i-preserved-then-not-get
loop-i-preserved-then-not-get c =
    let off : get_or c.args.mask.now c.loop-i.i false ≡ false = search rules in
    row_kept c.args.mask.now c.loop-i.i c.loop-i.found.items c.loop-i.invariant off

pub loop-i-preserved : goal.loop-i-preserved
loop-i-preserved c =
    let on : get_or c.args.mask.now c.loop-i.i false ≡ true = search rules in
    row_pushed c.args.mask.now c.loop-i.i c.loop-i.found.items _ c.loop-i.invariant on c.in_ok-push.ensures.items
