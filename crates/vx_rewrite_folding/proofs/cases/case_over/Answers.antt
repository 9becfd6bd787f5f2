use Rattle.vx_rewrite_standard.proofs.Answering.{some_answer}
use Rattle.vx_rewrite_folding.proofs.cases.case_over.Goals as goal

pub returns : goal.returns
returns c = some_answer _ _ c.try_new.ensures.node c.requires
