use Rattle.std.proofs.Common.{◌-◌, length}
use Rattle.vx_tree.specs.Views.{bound_of}
use Rattle.vx_eval.specs.Columns.{values_of}
use Rattle.vx_eval.proofs.Cuts.{Told}
use Rattle.vx_eval.proofs.blocks.by_blocks.Given as goal

abbrev pub invariant-loop-from : goal.invariant-loop-from
invariant-loop-from l = Told (bound_of l.b) (values_of l.rows) l.from (values_of l.values.items)

abbrev pub decreases-loop-from : goal.decreases-loop-from
decreases-loop-from l = length l.rows - l.from
