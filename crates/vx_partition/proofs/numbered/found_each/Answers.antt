use Rattle.std.proofs.Common.{◌+◌, [], ◌∷◌, length, sym, ap, subst, ◌∙◌, length-append}
use Rattle.vx_rewrite_analysis.specs.Answered.{tree_of}
use Rattle.vx_partition.specs.Gathered.{found_at, AreFound}
use Rattle.vx_partition.proofs.Walking.{found-push}
use Rattle.vx_partition.proofs.numbered.found_each.Goals as goal

pub loop-number-preserved : goal.loop-number-preserved
loop-number-preserved g c =
    let eq = g.A.PartialEq.eq in
    let nodes = c.args.nodes.now in
    let before = c.loop-number.found.items in
    let one = c.found_at-here.result in
    let put = c.in_ok-push.ensures.items in
    record {
      count = ap length put ∙ length-append before (one ∷ []) ∙ ap (λ n. n + 1) c.loop-number.invariant.count;
      found = subst (AreFound eq nodes) (sym put)
          (found-push nodes eq before one (c.found_at-here.ensures ∙ ap (λ k. found_at eq nodes (tree_of nodes k)) (sym c.loop-number.invariant.count)) c.loop-number.invariant.found);
    }
