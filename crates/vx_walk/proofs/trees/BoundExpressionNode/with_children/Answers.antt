use Rattle.vx_walk.proofs.Rebuilding.{seen}
use Rattle.vx_walk.proofs.trees.BoundExpressionNode.with_children.Goals as goal

pub returns : goal.returns
returns c =
    let it = c.with_children.ensures in
    seen _ _ c.with_children.result it.node it.well_typed it.same it.number it.root
