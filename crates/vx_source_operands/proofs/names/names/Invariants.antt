use Rattle.std.proofs.Common.{◌≡◌, length}
use Rattle.vx_source_grammar.specs.OptionReading.{more_read, names_read}
use Rattle.vx_source_operands.specs.OperandViews.{lexemes_of}
use Rattle.vx_source_operands.proofs.NameLists.{onto}
use Rattle.vx_source_operands.proofs.names.names.Given as goal

abbrev pub invariant-loop-name : goal.invariant-loop-name
invariant-loop-name l = names_read (lexemes_of l.tokens) ≡ onto l.names.items (more_read (lexemes_of l.left))

abbrev pub decreases-loop-name : goal.decreases-loop-name
decreases-loop-name l = length l.left
