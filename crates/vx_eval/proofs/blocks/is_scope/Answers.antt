use Rattle.std.proofs.Common.{arith}
use Rattle.vx_eval.proofs.Leaves.{not_one}
use Rattle.vx_eval.proofs.blocks.is_scope.Goals as goal

pub returns-in_default-2 : goal.returns-in_default-2
returns-in_default-2 c = not_one _ (λ e. omega (arith, e, c.in_default.len_at_least))
