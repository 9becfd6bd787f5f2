use Rattle.std.proofs.Common.{◌≡◌, drop}
use Rattle.vx_source_types.specs.TypeReading.{type_start, type_step}
use Rattle.vx_source_types.specs.TypeViews.{reader_of}
use Rattle.vx_source_grammar.specs.OptionReading.{read_all}
use Rattle.vx_source_operands.specs.OperandViews.{lexemes_of}
use Rattle.vx_source_operands.proofs.types.dtype.Given as goal

abbrev pub invariant-loop-found : goal.invariant-loop-found
invariant-loop-found l =
    read_all type_step (type_start l.context.room) (lexemes_of l.tokens) ≡ read_all type_step (reader_of l.reader) (lexemes_of (drop l.found-index l.tokens))
