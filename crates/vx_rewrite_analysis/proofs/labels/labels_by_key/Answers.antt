use Rattle.std.proofs.Common.{◌≡◌, ◌<◌, ◌≤◌, ◌||◌, ◌∷◌, drop, get_or, length, arith, rules, sym, ap, subst, ◌∙◌}
use Rattle.std.specs.Prelude.{Some, cond, is_some}
use Rattle.std.proofs.lemmas.List.{at_drop_all}
use Rattle.vx_tree.specs.Equality.{equal_bound}
use Rattle.vx_rewrite_analysis.specs.Keys.{key_of, entry_at}
use Rattle.vx_rewrite_analysis.specs.Labels.{label}
use Rattle.vx_rewrite_analysis.specs.NumberedLabels.{HasLabelsFrom}
use Rattle.vx_rewrite_analysis.specs.Numbers.{node_tree, has_node}
use Rattle.vx_rewrite_analysis.proofs.Entering.{some-node}
use Rattle.vx_rewrite_analysis.proofs.Labelling.{labels-next, entered-next}
use Rattle.vx_rewrite_analysis.proofs.Numbering.{read-tree}
use Rattle.vx_rewrite_analysis.proofs.Subtrees.{entries-with}
use Rattle.vx_rewrite_analysis.proofs.labels.labels_by_key.Goals as goal

pub loop-label-preserved : goal.loop-label-preserved
loop-label-preserved g c =
    let ns = c.args.nodes.now in
    let i = length c.loop-label.digests.items in
    let old = c.loop-label.by_key in
    let new = c.put_at.new.map in
    let left = c.next.new.self.rest.items in
    let rest : c.loop-label.label-iterator.rest.items ≡ c.in-Some.label ∷ left = search rules in
    let lengths : length c.loop-label.label-iterator.rest.items ≡ length (c.in-Some.label ∷ left) = ap length rest in
    let within : i < length ns = omega (arith, lengths, c.loop-label.invariant.count) in
    let more = c.in_ok-key.ensures.count in
    let tree = node_tree (get_or ns i (some-node ns i within)) in
    let is : tree ≡ key_of c.in_ok-key.key = read-tree ns i (some-node ns i within) within ∙ sym c.in_ok-key.ensures.key in
    let put : (k : _) → entry_at (key_of k) new ≡ cond (equal_bound tree (key_of k)) (Some c.in-Some.label) (entry_at (key_of k) old) =
    λ k. subst (λ b. entry_at (key_of k) new ≡ cond (equal_bound b (key_of k)) (Some c.in-Some.label) (entry_at (key_of k) old)) (sym is) (c.in_ok-put_at.ensures k) in
    record {
      count = omega (arith, lengths, more, c.loop-label.invariant.count);
      digests = c.in_ok-key.ensures.digests;
      nodes = λ k. ap (λ n. has_node (key_of k) (drop n ns) || is_some (entry_at (key_of k) new)) more
          ∙ entered-next ns i (some-node ns i within) k c.in-Some.label old new _ within (put k) (c.loop-label.invariant.nodes k);
      labels = λ own merge has.
          let before = c.loop-label.invariant.labels own merge has in
          let next = labels-next own merge ns i c.in-Some.label left (subst (HasLabelsFrom own merge ns i) rest before.0) in (
            subst (λ n. HasLabelsFrom own merge ns n left) (sym more) next.1,
            entries-with (λ n l. l ≡ label own merge n) tree c.in-Some.label old new (next.0 ∙ ap (label own merge) (sym (read-tree ns i (some-node ns i within) within))) put before.1,
          );
    }

pub returns-clause-nodes : goal.returns-clause-nodes
returns-clause-nodes g c =
    λ k.
    let ns = c.args.nodes.now in
    let number = length c.loop-label.digests.items in
    let all : length ns ≤ number = omega (arith, c.loop-label.label-iterator.rest.ok.0, c.in-None.ensures.steps.0, c.loop-label.invariant.count) in
    sym (ap (λ r. r || is_some (entry_at (key_of k) c.loop-label.by_key)) (at_drop_all (has_node (key_of k)) ns number all)) ∙ c.loop-label.invariant.nodes k

pub returns-clause-labels : goal.returns-clause-labels
returns-clause-labels g c = λ own merge has. (c.loop-label.invariant.labels own merge has).1
