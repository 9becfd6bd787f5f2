use Rattle.std.proofs.Common.{◌≤◌, ◌-◌, length, drop}
use Rattle.vx_source_types.specs.Reading.{Leads}
use Rattle.vx_source_types.specs.ScalarReading.{scalar_step, scalar_due}
use Rattle.vx_source_types.specs.ScalarViews.{mode_of}
use Rattle.vx_source_types.proofs.scalar_parser.read_scalar.Given as goal

abbrev pub invariant-loop-mode : goal.invariant-loop-mode
invariant-loop-mode l =
    (l.from ≤ length l.text) × (l.begun ≤ length l.text) × Leads (scalar_step l.nesting) scalar_due l.text (mode_of l.mode) (drop l.from l.text)

abbrev pub decreases-loop-mode : goal.decreases-loop-mode
decreases-loop-mode l = length l.text - l.from
