use Rattle.std.proofs.Common.{◌≡◌, arith, rules, get_or, true, false}
use Rattle.std.proofs.lemmas.Grind.{common_steps}
use Rattle.vx_eval_masks.proofs.Writing.{written_put, taken_is, left_more}
use Rattle.vx_eval_masks.proofs.over.write_moved.Goals as goal

pub loop-i-preserved : goal.loop-i-preserved
loop-i-preserved c =
    let on : get_or c.args.mask.now c.loop-i.i false ≡ true = search rules in
    record {
      long = grind (arith, common_steps);
      same = grind (arith, common_steps);
      written = written_put c.args.mask.now _ _ _ c.loop-i.i _ c.loop-i.invariant.written (omega arith) on
          (taken_is _ c.loop-i.values.items c.loop-i.i _ c.loop-i.invariant.left (omega arith) (cc (c.replace.ensures.value, c.index_mut.ensures.value)));
      left = left_more _ c.loop-i.values.items c.loop-i.i _ c.loop-i.invariant.left;
    }
