use Rattle.std.proofs.Common.{rules, ◌++◌, ◌<◌}
use Rattle.vx_tree.specs.Nodes.{size_of}
use Rattle.vx_tree.specs.Trees.{unbound}
use Rattle.vx_tree.specs.Views.{bound_of}
use Rattle.vx_rewrite_fusing.specs.Sides.{CanStandLeft}
use Rattle.vx_rewrite_fusing.proofs.Binaries.{left_smaller, right_smaller}
use Rattle.vx_rewrite_fusing.proofs.Cutting.{left_inside, left_kept, left_pairs, left_taken}
use Rattle.vx_rewrite_fusing.proofs.Heading.{on_ok}
use Rattle.vx_rewrite_fusing.proofs.Standing.{both_left, first_left, left_firsts, left_seconds, second_left}
use Rattle.vx_rewrite_fusing.proofs.conjunction.+merge_lefts.Goals as goal

pub partner-requires-clause-inside : goal.partner-requires-clause-inside
partner-requires-clause-inside t c = (left_inside c.in_default.ensures c.requires.stands.5).1

pub returns-in_default-partner-clause-merged : goal.returns-in_default-partner-clause-merged
returns-in_default-partner-clause-merged t c = λ back rs mid ls front s. left_kept c.in_default.ensures s c.in_default-partner.ensures

pub merge-requires-clause-pair : goal.merge-requires-clause-pair
merge-requires-clause-pair t c = left_pairs c.in_default.ensures c.requires.stands.5 c.in-Some-partner.right c.in-Some-partner.ensures

pub returns-in_default-clause-merged : goal.returns-in_default-clause-merged
returns-in_default-clause-merged t c = λ back rs mid ls front s. left_taken c.in_default.ensures s c.in-Some-partner.right c.in-Some-partner.ensures c.in_ok-merge.ensures.merged

pub merge_lefts-requires : goal.merge_lefts-requires
merge_lefts-requires t c =
    let s = c.requires.stands in
    let b = c.in-Some.ensures in
    let stands : CanStandLeft c.args.places.now.list.items (bound_of c.in-Some.first.now) c.args.at c.args.begin = (s.0, s.1, s.2 ++ left_seconds b s.5, left_firsts b s.5, s.4, first_left b s.5) in
    let smaller : size_of (unbound (bound_of c.in-Some.first.now)) < size_of (unbound (bound_of c.args.l.now)) = left_smaller c.in-Some.ensures in
    search rules

pub merge_lefts-requires-2 : goal.merge_lefts-requires-2
merge_lefts-requires-2 t c =
    let s = c.requires.stands in
    let b = c.in-Some.ensures in
    let m = c.in_ok-at.ensures.merged s.0 s.1 (s.2 ++ left_seconds b s.5) (left_firsts b s.5) s.4 (first_left b s.5) in
    let second = second_left b s.5 m c.in_ok-at.ensures.start in
    let stands : CanStandLeft c.merge_lefts.new.places.list.items (bound_of c.in-Some.second.now) c.in_ok-at.at c.args.begin = (s.0, m.rights, s.2, left_seconds b s.5, m.lefts ++ s.4, second) in
    let smaller : size_of (unbound (bound_of c.in-Some.second.now)) < size_of (unbound (bound_of c.args.l.now)) = right_smaller c.in-Some.ensures in
    search rules

pub returns-clause-merged : goal.returns-clause-merged
returns-clause-merged t c = λ back rs mid ls front s.
    let b = c.in-Some.ensures in
    let m = c.in_ok-at.ensures.merged back rs (mid ++ left_seconds b s) (left_firsts b s) front (first_left b s) in
    on_ok c.merge_lefts-2.result (λ n. both_left b s m n) (c.merge_lefts-2.ensures.merged back m.rights mid (left_seconds b s) (m.lefts ++ front) (second_left b s m c.in_ok-at.ensures.start))
