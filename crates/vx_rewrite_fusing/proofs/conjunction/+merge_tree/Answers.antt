use Rattle.std.proofs.Common.{rules, ◌≡◌, ◌<◌, [], length}
use Rattle.vx_tree.specs.Nodes.{size_of}
use Rattle.vx_tree.specs.Trees.{unbound, WellTyped}
use Rattle.vx_tree.specs.Views.{bound_of}
use Rattle.vx_rewrite_fusing.specs.Finding.{ConjunctsFused}
use Rattle.vx_rewrite_fusing.proofs.Apart.{conjuncts_apart}
use Rattle.vx_rewrite_fusing.proofs.Binaries.{left_smaller, right_smaller}
use Rattle.vx_rewrite_fusing.proofs.Growing.{left_stands, merged_by_lefts, merged_by_rights, one_merged, right_stands, typed_sides}
use Rattle.vx_rewrite_fusing.proofs.conjunction.+merge_tree.Goals as goal

pub merge_tree-requires : goal.merge_tree-requires
merge_tree-requires t c =
    let typed : WellTyped (bound_of c.in-Some.r.now) = (typed_sides c.in-Some.ensures c.requires.typed).1 in
    let apart : ConjunctsFused (bound_of c.in-Some.r.now) = (conjuncts_apart c.in-Some.ensures c.requires.apart).1 in
    let smaller : size_of (unbound (bound_of c.in-Some.r.now)) < size_of (unbound (bound_of c.args.b.now)) = right_smaller c.in-Some.ensures in
    search rules

pub merge_tree-requires-2 : goal.merge_tree-requires-2
merge_tree-requires-2 t c =
    let typed : WellTyped (bound_of c.in-Some.l.now) = (typed_sides c.in-Some.ensures c.requires.typed).0 in
    let apart : ConjunctsFused (bound_of c.in-Some.l.now) = (conjuncts_apart c.in-Some.ensures c.requires.apart).0 in
    let smaller : size_of (unbound (bound_of c.in-Some.l.now)) < size_of (unbound (bound_of c.args.b.now)) = left_smaller c.in-Some.ensures in
    search rules

pub returns-in_default-clause-merged : goal.returns-in_default-clause-merged
returns-in_default-clause-merged t c =
    let k = c.in_ok-push.ensures.pushed in
    one_merged (bound_of c.args.b.now) c.range_of.result k.0 c.requires.apart c.in_default.ensures c.range_of.ensures k.1 k.2

pub merge_lefts-requires-clause-stands : goal.merge_lefts-requires-clause-stands
merge_lefts-requires-clause-stands t c =
    let m = c.in_ok-merge_tree.ensures.merged in
    let n = c.in_ok-merge_tree-2.ensures.merged in
    let begin : c.len-begin.result ≡ length c.args.places.now.list.items = search rules in
    let end : c.len-end.result ≡ length c.merge_tree-2.new.places.list.items = search rules in
    (c.args.places.now.list.items, m.places, [], n.places, [], left_stands c.in-Some.ensures c.requires.typed m n begin end)

pub returns-then-end-start-clause-merged : goal.returns-then-end-start-clause-merged
returns-then-end-start-clause-merged t c =
    let m = c.in_ok-merge_tree.ensures.merged in
    let n = c.in_ok-merge_tree-2.ensures.merged in
    let begin : c.len-begin.result ≡ length c.args.places.now.list.items = search rules in
    let end : c.len-end.result ≡ length c.merge_tree-2.new.places.list.items = search rules in
    merged_by_lefts c.in-Some.ensures c.requires.typed m n (c.in_ok-merge_lefts.ensures.merged c.args.places.now.list.items m.places [] n.places [] (left_stands c.in-Some.ensures c.requires.typed m n begin end))

pub merge_rights-requires-clause-stands : goal.merge_rights-requires-clause-stands
merge_rights-requires-clause-stands t c =
    let m = c.in_ok-merge_tree.ensures.merged in
    let n = c.in_ok-merge_tree-2.ensures.merged in
    let start : c.len-start.result ≡ length c.merge_tree.new.places.list.items = search rules in
    (c.args.places.now.list.items, m.places, [], n.places, right_stands c.in-Some.ensures c.requires.typed m n start)

pub returns-clause-merged : goal.returns-clause-merged
returns-clause-merged t c =
    let m = c.in_ok-merge_tree.ensures.merged in
    let n = c.in_ok-merge_tree-2.ensures.merged in
    let start : c.len-start.result ≡ length c.merge_tree.new.places.list.items = search rules in
    merged_by_rights c.in-Some.ensures c.requires.typed m n (c.in_ok-merge_rights.ensures.merged c.args.places.now.list.items m.places [] n.places (right_stands c.in-Some.ensures c.requires.typed m n start))
