use Rattle.std.proofs.Common.{◌≡◌, [], ◌++◌, ap, append-nil, map, ◌∙◌, sym, rules}
use Rattle.std.specs.Option.{option_copied}
use Rattle.vx_partition.specs.Collecting.{groups_in, SameGroups, collected, marks_of}
use Rattle.vx_partition.specs.Only.{annotations_met}
use Rattle.vx_tree.specs.Views.{bound_of}
use Rattle.vx_partition.proofs.split.collected.Goals as goal

pub returns-clause-found : goal.returns-clause-found
returns-clause-found g c = λ only h.
    let start : SameGroups g.A.PartialEq.eq (groups_in c.new-groups.result) (collected g.A.PartialEq.eq []) = search rules in
    let whole = ap (map option_copied) c.iter.ensures.rest ∙ h ∙ sym (append-nil (annotations_met only (bound_of c.args.e.now))) in
    (c.in_ok-collect.ensures.walked only [] whole [] start).groups

pub returns-clause-marks : goal.returns-clause-marks
returns-clause-marks g c = λ only h.
    let start : SameGroups g.A.PartialEq.eq (groups_in c.new-groups.result) (collected g.A.PartialEq.eq []) = search rules in
    let none : c.new-marks.result.items ≡ [] = search rules in
    let marks = marks_of g.A.PartialEq.eq only [] (bound_of c.args.e.now) in
    let whole = ap (map option_copied) c.iter.ensures.rest ∙ h ∙ sym (append-nil (annotations_met only (bound_of c.args.e.now))) in
    (c.in_ok-collect.ensures.walked only [] whole [] start).noted ∙ ap (λ ms. ms ++ marks) none
