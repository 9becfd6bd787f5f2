use Rattle.std.proofs.Common.{◌∙◌, ap, sym, length}
use Rattle.vx_tree.specs.Trees.{node_types}
use Rattle.vx_tree.proofs.Nodes.{length-node_types}
use Rattle.vx_places.proofs.holes.node_over_holes.Goals as goal

pub holes-requires : goal.holes-requires
holes-requires c = ap length c.as_slice.ensures ∙ c.requires ∙ ap (λ bs. length (node_types bs)) (sym c.children.ensures.trees) ∙ length-node_types c.children.result.now
