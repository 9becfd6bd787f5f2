use Rattle.vx_tests.proofs.Distinct.{one_answered}
use Rattle.vx_tests.proofs.functions.one_name.Goals as goal

pub returns : goal.returns
returns c = one_answered _ _ _ c.in_ok-vec.ensures.items c.new-2.ensures
