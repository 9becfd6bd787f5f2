use Rattle.vx_ffi_calls.proofs.source.answer_source.Goals as goal

pub returns : goal.returns
returns c = (c.formatted.result, c.formatted.ensures.prints, c.formatted.ensures.stop, c.ended.ensures)
