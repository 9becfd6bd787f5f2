use Rattle.vx_tree.specs.Views.{bound_of, bounds_of}
use Rattle.vx_rewrite_fusing.proofs.Children.{IsFusedBelow, over_fused, then_fused}
use Rattle.std.proofs.lemmas.Result.{IfOk-weaker}
use Rattle.vx_rewrite_fusing.proofs.finding.fused_over.Goals as goal

pub root_fused-requires : goal.root_fused-requires
root_fused-requires c = rw c.in_ok-over.ensures.node (over_fused (bound_of c.args.b.now) (bounds_of c.args.children.items) c.requires.typed c.requires.each).fused

pub returns-clause-fused : goal.returns-clause-fused
returns-clause-fused c =
    let below : IsFusedBelow (bound_of c.args.b.now) (bound_of c.in_ok-over.over) = rw c.in_ok-over.ensures.node (over_fused (bound_of c.args.b.now) (bounds_of c.args.children.items) c.requires.typed c.requires.each) in
    IfOk-weaker c.root_fused.result _ _ (λ u fused. then_fused below fused) c.root_fused.ensures.fused
