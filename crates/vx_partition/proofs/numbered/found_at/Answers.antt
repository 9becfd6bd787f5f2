use Rattle.std.proofs.Common.{◌≡◌, ◌<◌, length, get_or, arith, rules, sym, ap, ◌∙◌}
use Rattle.std.specs.Prelude.{None, Some}
use Rattle.std.proofs.lemmas.List.{get_or_default}
use Rattle.vx_rewrite_analysis.specs.Answered.{tree_of, given_by}
use Rattle.vx_partition.specs.Found.{found_copied}
use Rattle.vx_partition.specs.Gathered.{found_at}
use Rattle.vx_partition.specs.declared.found.Found.TheVariants.{Nothing}
use Rattle.vx_partition.proofs.Walking.{found-unreached, found-own, found-below, together-next, together-ends}
use Rattle.vx_partition.proofs.numbered.found_at.Goals as goal

pub returns-in_default : goal.returns-in_default
returns-in_default g c =
    let nodes = c.args.nodes.now in
    let none : given_by nodes (tree_of nodes c.args.number) ≡ None = search rules in
    found-unreached nodes g.A.PartialEq.eq (tree_of nodes c.args.number) none

pub returns-then-not-is_empty : goal.returns-then-not-is_empty
returns-then-not-is_empty g c =
    let nodes = c.args.nodes.now in
    let own = c.in-Some.answers.now in
    let given : given_by nodes (tree_of nodes c.args.number) ≡ Some own = search rules in
    let some : 0 < length own = search rules in
    c.found_in.ensures ∙ found-own nodes g.A.PartialEq.eq (tree_of nodes c.args.number) own given some

-- the children's, from the left
pub offset_bounds-below-child : goal.offset_bounds-below-child
offset_bounds-below-child g c =
    let ks = c.children-child-items.result.now in
    let i = c.loop-child.child-index in
    let within : get_or ks i 0 < length c.args.below.now = omega (arith, c.children-child-items.ensures.below i 0 (omega arith), c.requires.count) in
    search rules

pub bounds-below-child : goal.bounds-below-child
bounds-below-child g c = omega (arith, c.children-child-items.ensures.below c.loop-child.child-index 0 (omega arith), c.requires.count)

pub loop-child-preserved : goal.loop-child-preserved
loop-child-preserved g c =
    let eq = g.A.PartialEq.eq in
    let nodes = c.args.nodes.now in
    let below = c.args.below.now in
    let ks = c.children-child-items.result.now in
    let i = c.loop-child.child-index in
    let k = get_or ks i 0 in
    let within : k < length below = omega (arith, c.children-child-items.ensures.below i 0 (omega arith), c.requires.count) in
    let one = c.index-below-child.result in
    let read : get_or below k Nothing ≡ one = get_or_default below k Nothing one within ∙ sym c.index-below-child.is in
    let here : found_copied one ≡ found_at eq nodes (tree_of nodes k) = sym (ap found_copied read) ∙ c.requires.below k within in
    together-next nodes eq g.met.A.Eq.laws ks i (found_copied c.loop-child.found) (found_copied one) (found_copied c.combined-found.result) (omega arith) c.loop-child.invariant here c.combined-found.ensures

pub returns : goal.returns
returns g c =
    let nodes = c.args.nodes.now in
    let own = c.in-Some.answers.now in
    let given : given_by nodes (tree_of nodes c.args.number) ≡ Some own = search rules in
    let none : length own ≡ 0 = search rules in
    together-ends nodes g.A.PartialEq.eq c.children-child-items.result.now c.loop-child.child-index _ _ (omega arith) c.children-child-items.ensures.trees c.loop-child.invariant
    ∙ found-below nodes g.A.PartialEq.eq (tree_of nodes c.args.number) own given none
