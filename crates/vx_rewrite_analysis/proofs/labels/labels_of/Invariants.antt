use Rattle.std.proofs.Common.{◌≡◌, length}
use Rattle.vx_tree.specs.Trees.{BoundTree}
use Rattle.vx_rewrite_analysis.specs.Labels.{AnswersBy, MergesBy}
use Rattle.vx_rewrite_analysis.specs.NumberedLabels.{HasLabels}
use Rattle.vx_rewrite_analysis.proofs.labels.labels_of.Given as goal

-- the nodes so far have their labels
abbrev pub invariant-loop-number : goal.invariant-loop-number
invariant-loop-number g l = record {
  count : length l.labels.items ≡ l.number;
  labels : (own : BoundTree → _) (merge : _ → _ → _) → AnswersBy (λ x r. goal.F-post g l.self_label x r) own → MergesBy (λ a b r. goal.G-post g l.merge_child a b r) merge
      → HasLabels own merge l.nodes l.labels.items;
}
