use Rattle.vx_ffi_calls.proofs.version.answer_version.Goals as goal

pub returns : goal.returns
returns c = (c.version_page.result, c.version_page.ensures.prints, c.version_page.ensures.stop, c.ended.ensures)
