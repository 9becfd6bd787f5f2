use Rattle.std.proofs.Common.{◌≡◌, ◌+◌, ◌||◌, drop, length}
use Rattle.std.specs.Prelude.{is_some}
use Rattle.vx_tree.specs.Trees.{BoundTree}
use Rattle.vx_rewrite_analysis.specs.Keys.{key_of, entry_at}
use Rattle.vx_rewrite_analysis.specs.Labels.{IsLabelled}
use Rattle.vx_rewrite_analysis.specs.NumberedLabels.{HasLabels, HasLabelsFrom}
use Rattle.vx_rewrite_analysis.specs.Numbers.{has_node, HasDigests}
use Rattle.vx_rewrite_analysis.proofs.labels.labels_by_key.Given as goal

-- once the nodes that are left have entries, all have; and the labels that are left are theirs
abbrev pub invariant-loop-label : goal.invariant-loop-label
invariant-loop-label g l = record {
  count : length l.digests.items + length l.label-iterator.rest.items ≡ length l.nodes;
  digests : HasDigests l.nodes l.digests.items;
  nodes : (k : _) → (has_node (key_of k) (drop (length l.digests.items) l.nodes) || is_some (entry_at (key_of k) l.by_key)) ≡ has_node (key_of k) l.nodes;
  labels : (own : BoundTree → _) (merge : _ → _ → _) → HasLabels own merge l.nodes l.fn.labels.items → HasLabelsFrom own merge l.nodes (length l.digests.items) l.label-iterator.rest.items × IsLabelled own merge l.by_key;
}
