use Rattle.vx_tree.specs.Views.{bound_of}
use Rattle.vx_rewrite_fusing.proofs.Children.{itself_fused}
use Rattle.vx_rewrite_fusing.proofs.finding.root_fused.Goals as goal

pub returns-in-Err-clause-memory : goal.returns-in-Err-clause-memory
returns-in-Err-clause-memory c = c.in-Err.ensures.1

pub returns-in-Ok-Some-clause-fused : goal.returns-in-Ok-Some-clause-fused
returns-in-Ok-Some-clause-fused c = let p = rw c.in-Ok-Some.field-0-is at c.in-Ok-Some.ensures in p.1

pub returns-in_ok-new-in-Ok-None-clause-fused : goal.returns-in_ok-new-in-Ok-None-clause-fused
returns-in_ok-new-in-Ok-None-clause-fused c =
    let none = rw c.in-Ok-None.field-0-is at c.in-Ok-None.ensures in
    rw c.in_ok-new-in-Ok-None.ensures.ok (itself_fused (bound_of c.args.tree) none)
