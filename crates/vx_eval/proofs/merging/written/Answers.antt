use Rattle.std.proofs.Common.{◌≡◌, ◌<◌, ◌∙◌, arith, sym, length, get_or, [], subst}
use Rattle.std.proofs.lemmas.Grind.{common_steps}
use Rattle.vx_value.specs.Types.{null}
use Rattle.vx_eval_masks.specs.Masks.{IsAll}
use Rattle.vx_eval.specs.Columns.{values_of}
use Rattle.vx_eval.proofs.Masked.{whole_is, over_front, over_more, over_done}
use Rattle.vx_eval.proofs.merging.written.Goals as goal

pub returns-in-Some-clause-rows : goal.returns-in-Some-clause-rows
returns-in-Some-clause-rows c =
    whole_is (length c.args.rows.items) c.args.masks.items c.args.values.items (λ k. get_or (values_of c.args.rows.items) k null) c.in-Some.place _ c.requires.pairs c.requires.masks c.requires.columns c.requires.apart
    (subst (λ l. c.in-Some.place < length l) c.as_slice.ensures.value c.in-Some.ensures.0) (subst (λ l. IsAll (get_or l c.in-Some.place [])) c.as_slice.ensures.value c.in-Some.ensures.1) c.swap_remove.ensures.value

pub write_rows-requires-clause-mask : goal.write_rows-requires-clause-mask
write_rows-requires-clause-mask c = (over_front _ _ _ _ _ _ _ _ _ _ _ c.loop-mask.invariant c.in-Some-pop.ensures.items c.pop_last.ensures).2 ∙ sym c.loop-mask.invariant.size

pub write_rows-requires-clause-column : goal.write_rows-requires-clause-column
write_rows-requires-clause-column c = (over_front _ _ _ _ _ _ _ _ _ _ _ c.loop-mask.invariant c.in-Some-pop.ensures.items c.pop_last.ensures).4 ∙ sym c.loop-mask.invariant.size

pub loop-mask-preserved : goal.loop-mask-preserved
loop-mask-preserved c = over_more _ _ _ _ _ _ _ _ _ _ _ _ c.loop-mask.invariant c.in-Some-pop.ensures.items c.pop_last.ensures c.in_ok-write_rows.ensures

pub returns-clause-rows : goal.returns-clause-rows
returns-clause-rows c =
    let none : length c.loop-mask.masks.items ≡ 0 = grind (arith, common_steps) in
    over_done _ _ _ _ _ _ _ c.loop-mask.invariant none
