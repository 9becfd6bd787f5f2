use Rattle.std.proofs.Common.{◌-◌}
use Rattle.vx_tree.specs.Views.{bound_of}
use Rattle.vx_array.specs.Rows.{lanes_rows}
use Rattle.vx_eval.proofs.Cuts.{Told}
use Rattle.vx_array_eval.proofs.blocks.by_blocks.Given as goal

abbrev pub invariant-loop-from : goal.invariant-loop-from
invariant-loop-from g l = Told (bound_of l.b) (lanes_rows l.batch) l.from (g.B.RowsBuilder.rows l.rows)

abbrev pub decreases-loop-from : goal.decreases-loop-from
decreases-loop-from g l = l.count - l.from
