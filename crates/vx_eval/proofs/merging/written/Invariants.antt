use Rattle.std.proofs.Common.{length}
use Rattle.vx_eval.specs.Columns.{values_of, rows_views}
use Rattle.vx_eval.proofs.Masked.{Over}
use Rattle.vx_eval.proofs.merging.written.Given as goal

abbrev pub invariant-loop-mask : goal.invariant-loop-mask
invariant-loop-mask l = Over (length l.fn.rows.items) l.fn.masks.items (rows_views l.fn.values.items) (values_of l.fn.rows.items) l.masks.items l.values.items l.rows.items

abbrev pub decreases-loop-mask : goal.decreases-loop-mask
decreases-loop-mask l = length l.masks.items
