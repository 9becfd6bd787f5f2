use Rattle.std.proofs.Common.{◌≡◌, ◌-◌, ◌*◌, drop}
use Rattle.vx_array.specs.Rows.{lanes_each}
use Rattle.vx_array_kernels.specs.Choices.{case_rows}
use Rattle.vx_array_kernels.proofs.choices.case_in.Given as goal

abbrev pub invariant-loop-j : goal.invariant-loop-j
invariant-loop-j g l = g.B.Blend.rows l.rows ≡ case_rows l.count (drop (2 * (l.pairs - l.j)) (lanes_each l.below))
