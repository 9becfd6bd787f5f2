use Rattle.vx_rewrite_rule_laws.proofs.FoldingLawfulness.{folding_normal}
use Rattle.vx_command_pages.proofs.planned.plan_of.Goals as goal

pub plan_with-requires : goal.plan_with-requires
plan_with-requires c = λ b n. (folding_normal b n).1
