use Rattle.std.proofs.Common.{◌<◌, ◌+◌, length, get_or, drop, arith, rules, refl, sym, ap, subst, ◌∙◌}
use Rattle.std.specs.Prelude.{All}
use Rattle.std.proofs.lemmas.Option.{slice_get_read}
use Rattle.vx_rewrite_analysis.specs.Numbers.{tree_at, trees_at}
use Rattle.vx_rewrite_analysis.proofs.Labelling.{merged-next}
use Rattle.vx_rewrite_analysis.proofs.Numbering.{has-read, node-children, trees-next}
use Rattle.vx_rewrite_analysis.proofs.labels.label_of.Goals as goal

pub self_label-label-requires : goal.self_label-label-requires
self_label-label-requires g c =
    c.requires.labels c.index-nodes-number.result.tree (has-read c.args.nodes.now c.args.number c.index-nodes-number.result c.requires.within c.index-nodes-number.is)

pub offset_bounds-labels-child : goal.offset_bounds-labels-child
offset_bounds-labels-child g c =
    let ks = c.as_slice-child-items.result.now in
    let own = (node-children c.args.nodes.now c.requires.numbered c.args.number c.index-nodes-number.result c.requires.within c.index-nodes-number.is).1 in
    let all : All (λ k. k < c.args.number) ks = subst (All (λ k. k < c.args.number)) (sym c.as_slice-child-items.ensures) own in
    let below : get_or ks c.loop-child.child-index 0 < c.args.number = all c.loop-child.child-index 0 (omega arith) in
    let has : get_or ks c.loop-child.child-index 0 < length c.args.labels.now = omega (arith, below, c.requires.count) in
    search rules

pub bounds-labels-child : goal.bounds-labels-child
bounds-labels-child g c =
    let ks = c.as_slice-child-items.result.now in
    let own = (node-children c.args.nodes.now c.requires.numbered c.args.number c.index-nodes-number.result c.requires.within c.index-nodes-number.is).1 in
    let all : All (λ k. k < c.args.number) ks = subst (All (λ k. k < c.args.number)) (sym c.as_slice-child-items.ensures) own in
    let below : get_or ks c.loop-child.child-index 0 < c.args.number = all c.loop-child.child-index 0 (omega arith) in
    omega (arith, below, c.requires.count)

pub loop-child-preserved : goal.loop-child-preserved
loop-child-preserved g c =
    λ own merge by_own by_merge has.
    let ns = c.args.nodes.now in
    let ks = c.as_slice-child-items.result.now in
    let i = c.loop-child.child-index in
    let child = get_or ks i 0 in
    let bounds = (node-children ns c.requires.numbered c.args.number c.index-nodes-number.result c.requires.within c.index-nodes-number.is).1 in
    let all : All (λ k. k < c.args.number) ks = subst (All (λ k. k < c.args.number)) (sym c.as_slice-child-items.ensures) bounds in
    let below : get_or ks i 0 < c.args.number = all i 0 (omega arith) in
    let within : get_or ks i 0 < length c.args.labels.now = omega (arith, below, c.requires.count) in
    let stored = has child c.index-labels-child.result (slice_get_read c.args.labels.now (length c.args.labels.now) child c.index-labels-child.result refl within c.index-labels-child.is) in
    merged-next own merge (trees_at ns (drop i ks)) (trees_at ns (drop (i + 1) ks)) (tree_at ns child) _ _ _ (trees-next ns ks i (omega arith))
    (by_merge _ _ _ c.merge_child-label.ensures ∙ ap (merge c.loop-child.label) stored) (c.loop-child.invariant own merge by_own by_merge has)
