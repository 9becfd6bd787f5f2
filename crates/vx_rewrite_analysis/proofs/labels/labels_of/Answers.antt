use Rattle.std.proofs.Common.{rules, sym, ap, subst, ◌∙◌}
use Rattle.vx_rewrite_analysis.specs.Labels.{label}
use Rattle.vx_rewrite_analysis.specs.NumberedLabels.{HasLabels}
use Rattle.vx_rewrite_analysis.specs.Numbers.{tree_at}
use Rattle.vx_rewrite_analysis.proofs.Labelling.{labels-push}
use Rattle.vx_rewrite_analysis.proofs.labels.labels_of.Goals as goal

pub loop-number-preserved : goal.loop-number-preserved
loop-number-preserved g c = record {
  count = search rules;
  labels = λ own merge by_own by_merge.
      let ns = c.args.nodes.now in
      let ls = c.loop-number.labels.items in
      let has = c.loop-number.invariant.labels own merge by_own by_merge in
      let lent = subst (HasLabels own merge ns) (sym c.as_slice.ensures.value) has in
      let is = c.label_of-label.ensures own merge by_own by_merge lent in
      subst (HasLabels own merge ns) (sym c.in_ok-push.ensures.items)
      (labels-push own merge ns ls c.label_of-label.result has (is ∙ ap (λ k. label own merge (tree_at ns k)) (sym c.loop-number.invariant.count)));
}
