use Rattle.std.proofs.Common.{rules, ◌++◌, ◌<◌}
use Rattle.vx_tree.specs.Nodes.{size_of}
use Rattle.vx_tree.specs.Trees.{unbound}
use Rattle.vx_tree.specs.Views.{bound_of}
use Rattle.vx_rewrite_fusing.specs.Sides.{CanStandRight}
use Rattle.vx_rewrite_fusing.proofs.Binaries.{left_smaller, right_smaller}
use Rattle.vx_rewrite_fusing.proofs.Cutting.{right_inside, right_kept, right_pairs, right_taken}
use Rattle.vx_rewrite_fusing.proofs.Heading.{on_ok}
use Rattle.vx_rewrite_fusing.proofs.Standing.{both_right, first_right, right_firsts, right_seconds, second_right}
use Rattle.vx_rewrite_fusing.proofs.conjunction.+merge_rights.Goals as goal

pub partner-requires-clause-inside : goal.partner-requires-clause-inside
partner-requires-clause-inside t c = (right_inside c.in_default.ensures c.requires.stands.4).1

pub returns-in_default-partner-clause-merged : goal.returns-in_default-partner-clause-merged
returns-in_default-partner-clause-merged t c = λ back rs mid ls s. right_kept c.in_default.ensures s c.in_default-partner.ensures

pub merge-requires-clause-pair : goal.merge-requires-clause-pair
merge-requires-clause-pair t c = right_pairs c.in_default.ensures c.requires.stands.4 c.in-Some-partner.left c.in-Some-partner.ensures

pub returns-in_default-clause-merged : goal.returns-in_default-clause-merged
returns-in_default-clause-merged t c = λ back rs mid ls s. right_taken c.in_default.ensures s c.in-Some-partner.left c.in-Some-partner.ensures c.in_ok-merge.ensures.merged

pub merge_rights-requires : goal.merge_rights-requires
merge_rights-requires t c =
    let s = c.requires.stands in
    let b = c.in-Some.ensures in
    let stands : CanStandRight c.args.places.now.list.items (bound_of c.in-Some.first.now) c.args.at c.args.start = (s.0 ++ right_seconds b s.4, right_firsts b s.4, s.2, s.3, first_right b s.4) in
    let smaller : size_of (unbound (bound_of c.in-Some.first.now)) < size_of (unbound (bound_of c.args.r.now)) = left_smaller c.in-Some.ensures in
    search rules

pub merge_rights-requires-2 : goal.merge_rights-requires-2
merge_rights-requires-2 t c =
    let s = c.requires.stands in
    let b = c.in-Some.ensures in
    let m = c.in_ok-at.ensures.merged (s.0 ++ right_seconds b s.4) (right_firsts b s.4) s.2 s.3 (first_right b s.4) in
    let second = second_right b s.4 m c.in_ok-at.ensures.start in
    let stands : CanStandRight c.merge_rights.new.places.list.items (bound_of c.in-Some.second.now) c.in_ok-at.at c.args.start = (s.0, right_seconds b s.4, m.rights ++ s.2, m.lefts, second) in
    let smaller : size_of (unbound (bound_of c.in-Some.second.now)) < size_of (unbound (bound_of c.args.r.now)) = right_smaller c.in-Some.ensures in
    search rules

pub returns-clause-merged : goal.returns-clause-merged
returns-clause-merged t c = λ back rs mid ls s.
    let b = c.in-Some.ensures in
    let m = c.in_ok-at.ensures.merged (back ++ right_seconds b s) (right_firsts b s) mid ls (first_right b s) in
    on_ok c.merge_rights-2.result (λ n. both_right b s m n) (c.merge_rights-2.ensures.merged back (right_seconds b s) (m.rights ++ mid) m.lefts (second_right b s m c.in_ok-at.ensures.start))
