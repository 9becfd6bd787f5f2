use Rattle.std.proofs.Common.{◌≡◌, arith, rules, get_or, true, false}
use Rattle.std.proofs.lemmas.Grind.{common_steps}
use Rattle.vx_eval_masks.proofs.Writing.{written_kept, written_put, written_done}
use Rattle.vx_eval_masks.proofs.over.write_with.Goals as goal

pub loop-i-preserved-then-not-mask-i : goal.loop-i-preserved-then-not-mask-i
loop-i-preserved-then-not-mask-i g c =
    let off : get_or c.args.mask.now c.loop-i.i false ≡ false = search rules in
    record { long = c.loop-i.invariant.long; written = λ h by. written_kept c.args.mask.now h _ _ c.loop-i.i (c.loop-i.invariant.written h by) off }

pub loop-i-preserved : goal.loop-i-preserved
loop-i-preserved g c =
    let on : get_or c.args.mask.now c.loop-i.i false ≡ true = search rules in
    record {
      long = grind (arith, common_steps);
      written = λ h by. written_put c.args.mask.now h _ _ c.loop-i.i _ (c.loop-i.invariant.written h by) (omega arith) on (by _ _ (omega arith) (omega arith) on c.in_ok-rows.ensures);
    }

pub returns : goal.returns
returns g c = λ h by. written_done c.args.mask.now h _ _ c.loop-i.i (c.loop-i.invariant.written h by) (omega arith)
