use Rattle.vx_ffi_plan.proofs.paths.answer_paths.Goals as goal

pub returns : goal.returns
returns c = (c.paths_of.result, c.paths_of.ensures.prints, c.paths_of.ensures.stop, c.ended.ensures)
