use Rattle.std.proofs.Common.{ap, ◌∙◌, arith, rules}
use Rattle.std.proofs.lemmas.Grind.{common_steps}
use Rattle.vx_dtype.proofs.Built.{before_none, join_fields_next, join_fields_kept, join_fields_end}
use Rattle.vx_dtype.proofs.joins.+join.Goals as goal
use Rattle.vx_dtype.proofs.joins.+join.Goals.{join_fields-then-i-common+in_ok-join+in_ok-push, join_fields-else-i-common+in_ok-clone+in_ok-push-2}

pub join_fields-loop-i-init : goal.join_fields-loop-i-init
join_fields-loop-i-init t c = rw c.new-made.ensures.items (search rules, before_none _ _)

pub join_fields-loop-i-preserved : goal.join_fields-loop-i-preserved
join_fields-loop-i-preserved t c =
    elim c.if-i-common.branch [
      | join_fields-then-i-common+in_ok-join+in_ok-push w ↦
          let pushed = ap (λ v. v.items) w.made-is ∙ w.in_ok-push.ensures.items in
          let count = c.loop-i.invariant.0 in (
            rw pushed (grind (arith, common_steps)),
            join_fields_next c.args.names.now c.args.others.now c.args.types.now c.args.kinds.now c.loop-i.made.items c.if-i-common.made.items c.loop-i.i c.index-types-i.result w.index-kinds-i.result w.in_ok-join.field-0 _
                count (omega arith) (omega arith) (omega arith) (omega arith) pushed c.index-types-i.is w.index-kinds-i.is w.in_ok-join.ensures c.loop-i.invariant.1,
          )
      | join_fields-else-i-common+in_ok-clone+in_ok-push-2 w ↦
          let pushed = ap (λ v. v.items) w.made-is ∙ w.in_ok-push-2.ensures.items in
          let count = c.loop-i.invariant.0 in (
            rw pushed (grind (arith, common_steps)),
            join_fields_kept c.args.names.now c.args.others.now c.args.types.now c.args.kinds.now c.loop-i.made.items c.if-i-common.made.items c.loop-i.i c.index-types-i.result w.in_ok-clone.field-0 _
                count (omega arith) (omega arith) (omega arith) pushed c.index-types-i.is w.in_ok-clone.ensures.cases c.loop-i.invariant.1,
          )
    ]

pub join_fields-returns : goal.join_fields-returns
join_fields-returns t c =
    join_fields_end c.args.names.now c.args.others.now c.args.types.now c.args.kinds.now c.loop-i.made.items c.loop-i.i _ (omega arith) c.loop-i.invariant.1
