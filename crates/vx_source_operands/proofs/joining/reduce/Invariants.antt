use Rattle.std.proofs.Common.{◌≡◌, length}
use Rattle.vx_source_grammar.specs.Joining.{reduced}
use Rattle.vx_source_operands.specs.Levels.{rank_of}
use Rattle.vx_source_operands.specs.OperandViews.{frames_of, operand_of}
use Rattle.vx_source_operands.proofs.joining.reduce.Given as goal

abbrev pub invariant-loop-frame : goal.invariant-loop-frame
invariant-loop-frame l = reduced (rank_of l.level) l.context.room (frames_of l.fn.frames.items) (operand_of l.fn.operand) ≡ reduced (rank_of l.level) l.context.room (frames_of l.frames.items) (operand_of l.operand)

abbrev pub decreases-loop-frame : goal.decreases-loop-frame
decreases-loop-frame l = length l.frames.items
