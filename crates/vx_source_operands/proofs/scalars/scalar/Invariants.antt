use Rattle.std.proofs.Common.{◌≡◌, drop}
use Rattle.vx_source_types.specs.ScalarReading.{scalar_due, scalar_step}
use Rattle.vx_source_grammar.specs.OptionReading.{read_all}
use Rattle.vx_source_operands.specs.OperandViews.{lexemes_of}
use Rattle.vx_source_types.specs.ScalarViews.{mode_of}
use Rattle.vx_source_operands.proofs.scalars.scalar.Given as goal

abbrev pub invariant-loop-found : goal.invariant-loop-found
invariant-loop-found l =
    read_all (scalar_step l.context.room) scalar_due (lexemes_of l.tokens)
    ≡ read_all (scalar_step l.context.room) (mode_of l.mode) (lexemes_of (drop l.found-index l.tokens))
