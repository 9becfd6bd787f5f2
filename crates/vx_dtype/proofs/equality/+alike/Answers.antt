use Rattle.std.proofs.Common.{sym, ◌∙◌, arith}
use Rattle.vx_dtype.proofs.Pairs.{and_fails, and3_fails, equal, equal_fields_count, equal_fields_next, equal_fields_end, same_base_fields_count, same_base_fields_next, same_base_fields_end, unequal}
use Rattle.vx_dtype.proofs.equality.+alike.Goals as goal

pub alike_all-returns-then-count-field_count-clause-same : goal.alike_all-returns-then-count-field_count-clause-same
alike_all-returns-then-count-field_count-clause-same t c = λ _.
    equal_fields_count _ _ (λ e. c.if-count-field_count.true (c.field_count-count.ensures.count ∙ e ∙ sym c.field_count.ensures.count))

pub alike_all-returns-then-count-field_count-clause-base : goal.alike_all-returns-then-count-field_count-clause-base
alike_all-returns-then-count-field_count-clause-base t c = λ _.
    same_base_fields_count _ _ (λ e. c.if-count-field_count.true (c.field_count-count.ensures.count ∙ e ∙ sym c.field_count.ensures.count))

pub alike_all-returns-clause-same : goal.alike_all-returns-clause-same
alike_all-returns-clause-same t c = λ exactly.
    let k = c.field_count-count.ensures.count in
    let m = c.field_count.ensures.count in
    sym (c.loop-i.invariant.same exactly ∙ equal_fields_end c.args.names.now c.args.others.now c.args.types.now c.args.kinds.now c.loop-i.i (omega arith) (omega arith))

pub alike_all-returns-clause-base : goal.alike_all-returns-clause-base
alike_all-returns-clause-base t c = λ exactly.
    let k = c.field_count-count.ensures.count in
    let m = c.field_count.ensures.count in
    sym (c.loop-i.invariant.base exactly ∙ same_base_fields_end c.args.names.now c.args.others.now c.args.types.now c.args.kinds.now c.loop-i.i (omega arith) (omega arith))

pub alike_all-returns-then-ne-clause-same : goal.alike_all-returns-then-ne-clause-same
alike_all-returns-then-ne-clause-same t c = λ exactly.
    and_fails _ (unequal _ c.ne.ensures c.if-ne.true)
    (equal_fields_next c.args.names.now c.args.others.now c.args.types.now c.args.kinds.now c.loop-i.i c.index-names-i.result c.index-others-i.result c.index-types-i.result c.index-kinds-i.result _
    (omega arith) (omega arith) (omega arith) (omega arith) c.index-names-i.is c.index-types-i.is c.index-others-i.is c.index-kinds-i.is (c.loop-i.invariant.same exactly))

pub alike_all-returns-then-ne-clause-base : goal.alike_all-returns-then-ne-clause-base
alike_all-returns-then-ne-clause-base t c = λ exactly.
    and3_fails _ _ (unequal _ c.ne.ensures c.if-ne.true)
    (same_base_fields_next c.args.names.now c.args.others.now c.args.types.now c.args.kinds.now c.loop-i.i c.index-names-i.result c.index-others-i.result c.index-types-i.result c.index-kinds-i.result _
    (omega arith) (omega arith) (omega arith) (omega arith) c.index-names-i.is c.index-types-i.is c.index-others-i.is c.index-kinds-i.is (c.loop-i.invariant.base exactly))

pub alike_all-loop-i-preserved : goal.alike_all-loop-i-preserved
alike_all-loop-i-preserved t c =
    let name = equal _ c.ne.ensures c.if-ne.false in
    record {
      same = λ exactly.
          let here = equal_fields_next c.args.names.now c.args.others.now c.args.types.now c.args.kinds.now c.loop-i.i c.index-names-i.result c.index-others-i.result c.index-types-i.result c.index-kinds-i.result _
          (omega arith) (omega arith) (omega arith) (omega arith) c.index-names-i.is c.index-types-i.is c.index-others-i.is c.index-kinds-i.is (c.loop-i.invariant.same exactly) in
          rw (name, ← c.if-not-alike.ensures.same exactly) at here;
      base = λ exactly.
          let here = same_base_fields_next c.args.names.now c.args.others.now c.args.types.now c.args.kinds.now c.loop-i.i c.index-names-i.result c.index-others-i.result c.index-types-i.result c.index-kinds-i.result _
          (omega arith) (omega arith) (omega arith) (omega arith) c.index-names-i.is c.index-types-i.is c.index-others-i.is c.index-kinds-i.is (c.loop-i.invariant.base exactly) in
          rw (name, ← c.if-not-alike.ensures.base exactly) at here;
    }
