use Rattle.std.proofs.Common.{◌∙◌, ap, sym}
use Rattle.vx_walk.specs.Heights.{items_of, items-trees}
use Rattle.vx_walk.proofs.trees.ExpressionNode.children_slice.Goals as goal

pub returns : goal.returns
returns c = sym (items-trees _) ∙ ap items_of c.children.ensures.trees
