use Rattle.std.proofs.Common.{rules}
use Rattle.vx_tree.specs.Views.{bound_of}
use Rattle.vx_rewrite_fusing.specs.Conjuncts.{Fused}
use Rattle.vx_rewrite_fusing.proofs.Children.{itself_fused}
use Rattle.vx_rewrite_fusing.proofs.finding.merged_over.Goals as goal

pub returns-in-Ok-None-clause-fused : goal.returns-in-Ok-None-clause-fused
returns-in-Ok-None-clause-fused c =
    let fused : Fused (bound_of c.args.tree.value) = search rules in
    itself_fused (bound_of c.args.tree.value) fused
