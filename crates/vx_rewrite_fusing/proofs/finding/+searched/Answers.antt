use Rattle.std.proofs.Common.{rules, ◌≡◌, ◌<◌, refl, sym, ◌∙◌}
use Rattle.std.specs.Prelude.{Some}
use Rattle.vx_tree.specs.Nodes.{size_of}
use Rattle.vx_tree.specs.Trees.{unbound, WellTyped}
use Rattle.vx_tree.specs.Views.{bound_of}
use Rattle.vx_rewrite_fusing.specs.Conjuncts as spec
use Rattle.vx_rewrite_fusing.specs.Finding.{tree_or, ConjunctsFused}
use Rattle.vx_rewrite_fusing.proofs.Apart.{conjuncts_apart}
use Rattle.vx_rewrite_fusing.proofs.Binaries.{left_smaller, right_smaller}
use Rattle.vx_rewrite_fusing.proofs.Growing.{typed_sides}
use Rattle.vx_rewrite_fusing.proofs.Searching.{below_changes, over_then}
use Rattle.vx_rewrite_fusing.proofs.finding.+searched.Goals as goal

pub searched-requires : goal.searched-requires
searched-requires t c =
    let typed : WellTyped (bound_of c.in-Some.l.now) = (typed_sides c.in-Some.ensures c.requires.typed).0 in
    let apart : ConjunctsFused (bound_of c.in-Some.l.now) = (conjuncts_apart c.in-Some.ensures c.requires.apart).0 in
    let smaller : size_of (unbound (bound_of c.in-Some.l.now)) < size_of (unbound (bound_of c.args.b.now)) = left_smaller c.in-Some.ensures in
    search rules

pub searched-requires-2 : goal.searched-requires-2
searched-requires-2 t c =
    let typed : WellTyped (bound_of c.in-Some.r.now) = (typed_sides c.in-Some.ensures c.requires.typed).1 in
    let apart : ConjunctsFused (bound_of c.in-Some.r.now) = (conjuncts_apart c.in-Some.ensures c.requires.apart).1 in
    let smaller : size_of (unbound (bound_of c.in-Some.r.now)) < size_of (unbound (bound_of c.args.b.now)) = right_smaller c.in-Some.ensures in
    search rules

pub returns-in_ok-root_fused-in-Some-2 : goal.returns-in_ok-root_fused-in-Some-2
returns-in_ok-root_fused-in-Some-2 t c =
    let p = c.in-Some.ensures in
    let left = c.in_ok-left.left in
    let right = c.in_ok-right.right in
    let over = rw c.in-Some-2.is at c.in_ok-over.ensures.over in
    let whole = rw c.in-Some-2.is at c.in_ok-over.ensures.whole in
    let tree : spec.and_of (tree_or (bound_of c.in-Some.l.now) left) (tree_or (bound_of c.in-Some.r.now) right) ≡ bound_of c.in-Some-2.over.value = (let e = over refl in cc) in
    let inner : bound_of c.into_inner.result ≡ bound_of c.in-Some-2.over.value = search rules in
    (below_changes left right (Some c.in-Some-2.over) p c.in_ok-left.ensures c.in_ok-right.ensures whole (λ n. cc), over_then left right p c.requires.typed c.in_ok-left.ensures c.in_ok-right.ensures (inner ∙ sym tree) c.in_ok-root_fused-in-Some-2.ensures.fused)
