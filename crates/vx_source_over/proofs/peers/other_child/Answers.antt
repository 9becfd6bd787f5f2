use Rattle.std.proofs.Common.{◌∙◌, sym, ap}
use Rattle.std.specs.Prelude.{option_map}
use Rattle.vx_tree.specs.Nodes.{tree_at}
use Rattle.vx_tree.specs.Views.{tree_of}
use Rattle.vx_source_over.specs.Peers.{child_at}
use Rattle.vx_source_over.proofs.NodeTypes.{lent_child}
use Rattle.vx_source_over.proofs.peers.other_child.Goals as goal

pub returns-in-Some : goal.returns-in-Some
returns-in-Some c =
    lent_child c.get.result c.children.result.now c.args.i c.get.ensures.lookup.0 c.get.ensures.lookup.1
    ∙ ap (λ es. tree_at es c.args.i) c.children.ensures.trees ∙ ap (λ o. child_at (option_map (λ d. tree_of d.now) o) c.args.i) (sym c.in-Some.is)
