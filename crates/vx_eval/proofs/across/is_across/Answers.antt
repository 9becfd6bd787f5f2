use Rattle.std.proofs.Common.{arith, ap}
use Rattle.vx_fn.specs.Views.{function_of}
use Rattle.vx_eval.proofs.Cuts.{not_two}
use Rattle.vx_eval.proofs.across.is_across.Goals as goal

pub returns-in_default-children : goal.returns-in_default-children
returns-in_default-children c = not_two _ _ (ap function_of c.in-FillNull.is) (λ e. omega (arith, e, c.in_default-children.len_below))

pub returns-in_default-children-2 : goal.returns-in_default-children-2
returns-in_default-children-2 c = not_two _ _ (ap function_of c.in-FillNull.is) (λ e. omega (arith, e, c.in_default-children.len_at_least))
