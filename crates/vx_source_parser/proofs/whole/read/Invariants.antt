use Rattle.std.proofs.Common.{◌≤◌, ◌-◌, length, drop}
use Rattle.vx_source_types.specs.Reading.{Leads}
use Rattle.vx_source_grammar.specs.ExpressionReading.{step_by}
use Rattle.vx_source_grammar.specs.States.{expression_start}
use Rattle.vx_source_operands.specs.OperandViews.{reader_of}
use Rattle.vx_source_operands.specs.PlainViews.{reading_of}
use Rattle.vx_source_parser.proofs.whole.read.Given as goal

abbrev pub invariant-loop-reader : goal.invariant-loop-reader
invariant-loop-reader l =
    (l.from ≤ length l.text) × Leads (step_by (reading_of l.plain)) (expression_start l.limit) l.text (reader_of l.reader) (drop l.from l.text)

abbrev pub decreases-loop-reader : goal.decreases-loop-reader
decreases-loop-reader l = length l.text - l.from
