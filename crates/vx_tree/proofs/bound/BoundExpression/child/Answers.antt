use Rattle.std.proofs.Common.{Some, sym, ◌∙◌, ap, arith}
use Rattle.vx_tree.specs.Nodes.{bound_at}
use Rattle.vx_tree.specs.Views.{bound_of}
use Rattle.vx_tree.proofs.Nodes.{bound_at-bounds_of}
use Rattle.vx_tree.proofs.bound.BoundExpression.child.Goals as goal

pub returns : goal.returns
returns c =
    let found = bound_at-bounds_of c.children.result.now c.args.index c.index-children-index.result (omega arith) in
    ap (λ b. Some (bound_of b)) c.index-children-index.is ∙ sym found ∙ ap (λ bs. bound_at bs c.args.index) c.children.ensures.trees
