use Rattle.std.proofs.Common.{◌∙◌, ap, sym}
use Rattle.vx_walk.specs.Heights.{bound_items_of, bound_items-bounds}
use Rattle.vx_walk.proofs.trees.BoundExpressionNode.children_slice.Goals as goal

pub returns : goal.returns
returns c = sym (bound_items-bounds _) ∙ ap bound_items_of c.children.ensures.trees
