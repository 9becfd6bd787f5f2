use Rattle.vx_ffi_calls.proofs.rows.answer_rows.Goals as goal

pub returns : goal.returns
returns c = (c.evaluated.result, c.evaluated.ensures.prints, c.evaluated.ensures.stop, c.ended.ensures)
