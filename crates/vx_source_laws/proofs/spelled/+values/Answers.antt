use Rattle.std.proofs.Common.{arith}
use Rattle.vx_source_laws.proofs.SpelledNext.{values_spelled_next, values_spelled_end}
use Rattle.vx_source_laws.proofs.spelled.+values.Goals as goal

pub values_are_spelled-loop-i-preserved : goal.values_are_spelled-loop-i-preserved
values_are_spelled-loop-i-preserved t c = λ rest.
    c.loop-i.invariant (values_spelled_next c.args.values.now c.loop-i.i c.index-values-i.result (omega arith) c.index-values-i.is c.value_is_spelled.ensures rest)

pub values_are_spelled-returns : goal.values_are_spelled-returns
values_are_spelled-returns t c = c.loop-i.invariant (values_spelled_end c.args.values.now c.loop-i.i (omega arith))
