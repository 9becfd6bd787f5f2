use Rattle.vx_eval.specs.Columns.{rows_views}
use Rattle.vx_eval.proofs.Masked.{Splitting}
use Rattle.vx_eval.proofs.choice.split.Given as goal

abbrev pub invariant-loop-condition : goal.invariant-loop-condition
invariant-loop-condition l = Splitting l.count (rows_views l.fn.columns.items) l.columns.rest.items l.masks.items l.rest l.values.items

abbrev pub decreases-loop-condition : goal.decreases-loop-condition
decreases-loop-condition l = l.columns.rest.len
