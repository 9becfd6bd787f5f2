use Rattle.std.proofs.Common.{◌≡◌, ◌<◌, ◌||◌, arith, rules, sym, ap, subst, ◌∙◌, length, map, ◌++◌, drop, ◌+◌}
use Rattle.std.specs.Prelude.{All}
use Rattle.std.proofs.lemmas.Result.{on_ok_weaker}
use Rattle.vx_tree.specs.Nodes.{size_of}
use Rattle.vx_tree.specs.Trees.{unbound}
use Rattle.vx_tree.specs.Views.{bound_of, bounds_of}
use Rattle.vx_rewrite_analysis.specs.Numbers.{tree_at, has_node}
use Rattle.vx_rewrite_analysis.specs.Reached.{nowhere, occurs_in}
use Rattle.vx_rewrite_analysis.proofs.Numbering.{below-next, numbers-next, has-below}
use Rattle.vx_rewrite_analysis.proofs.Subtrees.{bounds-next, bounds-end, child-smaller, reached-next, reached-end}
use Rattle.vx_rewrite_analysis.proofs.numbers.+number_of.Goals as goal

pub number_of-requires : goal.number_of-requires
number_of-requires t c =
    let fewer : size_of (unbound (bound_of c.child-item.result)) < size_of (unbound (bound_of c.args.e.now)) =
    child-smaller _ c.children-child-items.result.now c.loop-child.child-index _ c.children-child-items.ensures.trees (omega arith) c.child-item.is in
    search rules

pub loop-child-preserved : goal.loop-child-preserved
loop-child-preserved t c =
    let before = c.loop-child.nodes.keys in
    let after = c.number_of.new.nodes.keys in
    let numbers = c.loop-child.children.items in
    let one = c.in_ok-number.ensures in
    let children = c.children-child-items.result.now in
    record {
      numbered = one.numbered;
      kept = λ i b is. one.kept i b (c.loop-child.invariant.kept i b is);
      nodes = λ n. reached-next nowhere n (bounds_of (drop c.loop-child.child-index children)) (bounds_of (drop (c.loop-child.child-index + 1) children)) (bound_of c.child-item.result) _ _ _
          (bounds-next children c.loop-child.child-index c.child-item.result (omega arith) c.child-item.is) (one.nodes n) (c.loop-child.invariant.nodes n);
      below = subst (All (λ k. k < length after)) (sym c.in_ok-push.ensures.ok)
          (below-next before after one.kept numbers c.in_ok-number.number c.loop-child.invariant.below one.number.0);
      trees = subst (λ ks. map (tree_at after) ks ++ map bound_of (drop (c.loop-child.child-index + 1) children) ≡ map bound_of children) (sym c.in_ok-push.ensures.ok)
          (numbers-next before after one.kept numbers c.in_ok-number.number children c.loop-child.child-index c.child-item.result c.loop-child.invariant.below one.number.1 (omega arith) c.child-item.is
          c.loop-child.invariant.trees);
    }

pub returns-clause-kept : goal.returns-clause-kept
returns-clause-kept t c =
    on_ok_weaker c.number_over.result (λ kept i b is. kept i b (c.loop-child.invariant.kept i b is)) c.number_over.ensures.kept

pub returns-clause-nodes : goal.returns-clause-nodes
returns-clause-nodes t c =
    on_ok_weaker c.number_over.result
    (λ here n.
    let children = c.children-child-items.result.now in
    let left = bounds_of (drop c.loop-child.child-index children) in
    has-below (bound_of c.args.e.now) n (has_node n c.args.nodes.now.keys) (has_node n c.loop-child.nodes.keys) (has_node n c.number_over.new.nodes.keys) (here n)
    (reached-end nowhere n left _ _ (bounds-end children c.loop-child.child-index (omega arith)) (c.loop-child.invariant.nodes n)
    ∙ ap (λ bs. occurs_in n bs || has_node n c.args.nodes.now.keys) c.children-child-items.ensures.trees))
    c.number_over.ensures.nodes
