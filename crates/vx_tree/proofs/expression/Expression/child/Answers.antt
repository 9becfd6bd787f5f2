use Rattle.std.proofs.Common.{Some, sym, ◌∙◌, ap, arith}
use Rattle.vx_tree.specs.Nodes.{tree_at}
use Rattle.vx_tree.specs.Views.{tree_of}
use Rattle.vx_tree.proofs.Nodes.{tree_at-trees_of}
use Rattle.vx_tree.proofs.expression.Expression.child.Goals as goal

pub returns : goal.returns
returns c =
    let found = tree_at-trees_of c.children.result.now c.args.index c.index-children-index.result (omega arith) in
    ap (λ e. Some (tree_of e)) c.index-children-index.is ∙ sym found ∙ ap (λ es. tree_at es c.args.index) c.children.ensures.trees
