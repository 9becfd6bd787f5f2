use Rattle.std.proofs.Common.{◌≡◌, ◌<◌, ◌≤◌, ◌||◌, ◌∷◌, drop, get_or, length, arith, rules, sym, ap, subst, ◌∙◌}
use Rattle.std.specs.Prelude.{◌&&◌, cond, is_some}
use Rattle.std.proofs.lemmas.List.{at_drop_all}
use Rattle.vx_tree.specs.Equality.{equal_bound}
use Rattle.vx_rewrite_analysis.specs.Annotations.{IsAnnotationsOf}
use Rattle.vx_rewrite_analysis.specs.ByNumber.{has_some, HasEach}
use Rattle.vx_rewrite_analysis.specs.Keys.{key_of, entry_at}
use Rattle.vx_rewrite_analysis.specs.Numbers.{node_tree}
use Rattle.vx_rewrite_analysis.proofs.Entering.{some-node, each-left, entered-if}
use Rattle.vx_rewrite_analysis.proofs.Numbering.{read-tree}
use Rattle.vx_rewrite_analysis.proofs.Subtrees.{entries-if}
use Rattle.vx_rewrite_analysis.proofs.annotations.sets_by_key.Goals as goal

pub loop-set-preserved : goal.loop-set-preserved
loop-set-preserved g c =
    let eq = g.A.PartialEq.eq in
    let ns = c.args.nodes.now in
    let i = length c.loop-set.digests.items in
    let old = c.loop-set.by_key in
    let new = c.put_some.new.map in
    let set = c.in-Some.set in
    let left = c.next.new.self.rest.items in
    let rest : c.loop-set.set-iterator.rest.items ≡ set ∷ left = search rules in
    let lengths : length c.loop-set.set-iterator.rest.items ≡ length (set ∷ left) = ap length rest in
    let within : i < length ns = omega (arith, lengths, c.loop-set.invariant.count) in
    let more = c.in_ok-key.ensures.count in
    let tree = node_tree (get_or ns i (some-node ns i within)) in
    let is : tree ≡ key_of c.in_ok-key.key = read-tree ns i (some-node ns i within) within ∙ sym c.in_ok-key.ensures.key in
    let put : (k : _) → entry_at (key_of k) new ≡ cond (is_some set && equal_bound tree (key_of k)) set (entry_at (key_of k) old) =
    λ k. subst (λ b. entry_at (key_of k) new ≡ cond (is_some set && equal_bound b (key_of k)) set (entry_at (key_of k) old)) (sym is) (c.in_ok-put_some.ensures k) in
    record {
      count = omega (arith, lengths, more, c.loop-set.invariant.count);
      digests = c.in_ok-key.ensures.digests;
      nodes = λ k. ap (λ n. has_some (key_of k) (drop n ns) left || is_some (entry_at (key_of k) new)) more
          ∙ entered-if ns i (some-node ns i within) within left k set old new _ (put k)
          (ap (λ xs. has_some (key_of k) (drop i ns) xs || is_some (entry_at (key_of k) old)) (sym rest) ∙ c.loop-set.invariant.nodes k);
      annotations = λ answers each.
          let before = c.loop-set.invariant.annotations answers each in
          let next = each-left ns i (some-node ns i within) within left (IsAnnotationsOf eq answers) set (subst (HasEach (IsAnnotationsOf eq answers) (drop i ns)) rest before.0) in
          (subst (λ n. HasEach (IsAnnotationsOf eq answers) (drop n ns) left) (sym more) next.0, entries-if (IsAnnotationsOf eq answers) tree set old new next.1 put before.1);
    }

pub returns-clause-nodes : goal.returns-clause-nodes
returns-clause-nodes g c =
    λ k.
    let ns = c.args.nodes.now in
    let number = length c.loop-set.digests.items in
    let all : length ns ≤ number = omega (arith, c.loop-set.set-iterator.rest.ok.0, c.in-None.ensures.steps.0, c.loop-set.invariant.count) in
    sym (ap (λ r. r || is_some (entry_at (key_of k) c.loop-set.by_key)) (at_drop_all (λ ms. has_some (key_of k) ms c.loop-set.set-iterator.rest.items) ns number all)) ∙ c.loop-set.invariant.nodes k

pub returns-clause-annotations : goal.returns-clause-annotations
returns-clause-annotations g c = λ answers each. (c.loop-set.invariant.annotations answers each).1
