use Rattle.std.proofs.Common.{arith}
use Rattle.vx_source_laws.proofs.SpelledNext.{texts_next, texts_end}
use Rattle.vx_source_laws.proofs.spelled.names_are_texts.Goals as goal

pub loop-i-preserved : goal.loop-i-preserved
loop-i-preserved c = λ rest. c.loop-i.invariant (texts_next c.args.names.now c.loop-i.i c.index-names-i.result (omega arith) c.index-names-i.is c.name_is_text.ensures rest)

pub returns : goal.returns
returns c = c.loop-i.invariant (texts_end c.args.names.now c.loop-i.i (omega arith))
