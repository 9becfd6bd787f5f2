use Rattle.std.proofs.Common.{◌||◌, sym, ap, subst, ◌∙◌}
use Rattle.vx_tree.specs.Views.{bound_of}
use Rattle.vx_rewrite_analysis.specs.Keys.{key_of}
use Rattle.vx_rewrite_analysis.specs.Numbers.{has_node, IsNumbered}
use Rattle.vx_rewrite_analysis.specs.Reached.{occurs}
use Rattle.vx_rewrite_analysis.proofs.Typing.{node-numbered}
use Rattle.vx_rewrite_analysis.proofs.Subtrees.{or_false}
use Rattle.vx_rewrite_analysis.proofs.labels.label_bound_tree.Goals as goal

pub labels_of-requires-clause-numbered : goal.labels_of-requires-clause-numbered
labels_of-requires-clause-numbered g c = subst IsNumbered (sym c.as_slice-nodes.ensures.keys) c.in_ok-_root.ensures.numbered

pub labels_of-requires-clause-labels : goal.labels_of-requires-clause-labels
labels_of-requires-clause-labels g c =
    λ x there. c.requires.labels x (node-numbered (bound_of c.args.e.now) (bound_of x.now) _ _ _ c.as_slice-nodes.ensures.keys c.new-nodes.ensures.empty (c.in_ok-_root.ensures.nodes (bound_of x.now)) there)

pub labels_by_key-requires-clause-numbered : goal.labels_by_key-requires-clause-numbered
labels_by_key-requires-clause-numbered g c = subst IsNumbered (sym c.as_slice-nodes.ensures.keys) c.in_ok-_root.ensures.numbered

pub returns-clause-nodes : goal.returns-clause-nodes
returns-clause-nodes g c =
    λ k.
    let b = bound_of c.args.e.now in
    c.in_ok-labels_by_key.ensures.nodes k ∙ ap (has_node (key_of k)) c.as_slice-nodes.ensures.keys ∙ c.in_ok-_root.ensures.nodes (key_of k)
    ∙ ap (λ ns. occurs (key_of k) b || has_node (key_of k) ns) c.new-nodes.ensures.empty ∙ or_false (occurs (key_of k) b)

pub returns-clause-labels : goal.returns-clause-labels
returns-clause-labels g c =
    λ own merge by_own by_merge. c.in_ok-labels_by_key.ensures.labels own merge (c.in_ok-labels.ensures.labels own merge by_own by_merge)
