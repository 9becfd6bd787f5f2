use Rattle.vx_ffi_calls.proofs.pages.answer_page.Goals as goal

pub returns : goal.returns
returns c = (c.made.result, c.made.ensures.prints, c.made.ensures.stop, c.ended.ensures)
