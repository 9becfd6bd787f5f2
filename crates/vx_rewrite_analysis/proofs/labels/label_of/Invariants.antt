use Rattle.std.proofs.Common.{◌≡◌, drop}
use Rattle.vx_tree.specs.Trees.{BoundTree}
use Rattle.vx_rewrite_analysis.specs.Labels.{label, merged, AnswersBy, MergesBy}
use Rattle.vx_rewrite_analysis.specs.NumberedLabels.{HasLabels}
use Rattle.vx_rewrite_analysis.specs.Numbers.{tree_at, trees_at}
use Rattle.vx_rewrite_analysis.proofs.labels.label_of.Given as goal

-- what is left to merge gives the node's label
abbrev pub invariant-loop-child : goal.invariant-loop-child
invariant-loop-child g l =
    (own : BoundTree → _) (merge : _ → _ → _) → AnswersBy (λ x r. goal.F-post g l.self_label x r) own → MergesBy (λ a b r. goal.G-post g l.merge_child a b r) merge
    → HasLabels own merge l.nodes l.labels → merged own merge l.label (trees_at l.nodes (drop l.child-index l.child-items)) ≡ label own merge (tree_at l.nodes l.number)
