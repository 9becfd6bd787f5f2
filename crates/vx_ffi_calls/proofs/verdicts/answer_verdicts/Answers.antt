use Rattle.vx_ffi_calls.proofs.verdicts.answer_verdicts.Goals as goal

pub returns : goal.returns
returns c = (c.judged.result, c.judged.ensures.prints, c.judged.ensures.stop, c.ended.ensures)
