use Rattle.std.proofs.Common.{◌≡◌, ◌<◌, ◌++◌, length, map, arith, rules, sym, ap, ◌∙◌, true, false}
use Rattle.std.specs.Prelude.{is_some}
use Rattle.std.specs.Option.{option_copied}
use Rattle.std.proofs.lemmas.List.{get_or_default}
use Rattle.vx_rewrite_analysis.specs.Answered.{tree_of}
use Rattle.vx_partition.specs.Found.{found_copied, alone}
use Rattle.vx_partition.specs.declared.found.Found.TheVariants.{Nothing}
use Rattle.vx_partition.proofs.Meeting.{copied_put, met_one, none_copied}
use Rattle.vx_partition.proofs.Walking.{some-copied, walk-starts, walk-next, walk-ends}
use Rattle.vx_partition.proofs.numbered.+meet_numbered.Goals as goal

-- what stands at the number is what the walk takes there
pub returns-then-is_some : goal.returns-then-is_some
returns-then-is_some g t c = λ only are.
    let one = c.index-found-number.result in
    let within : c.args.number < length c.args.found.now = omega (arith, c.requires.within, c.requires.count) in
    let read = get_or_default c.args.found.now c.args.number Nothing one within ∙ sym c.index-found-number.is in
    let here = c.alone-only.ensures ∙ sym (ap (λ o. alone (found_copied o)) read) ∙ are c.args.number within in
    let some : is_some c.alone-only.result ≡ true = search rules in
    let a = some-copied c.alone-only.result some in
    copied_put _ _ c.alone-only.result _ a.1 c.in_ok-push.ensures.items ∙ ap (λ ms. map option_copied c.args.met.now.items ++ ms) (sym (met_one only (tree_of c.args.nodes.now c.args.number) a.0 (sym here ∙ a.1)))

pub loop-child-init : goal.loop-child-init
loop-child-init g t c = λ only are.
    let quiet : is_some c.alone-only.result ≡ false = search rules in
    walk-starts c.args.nodes.now only c.children-child-items.result.now c.args.met.now.items _ c.alone-only.result (none_copied c.alone-only.result quiet) c.in_ok-push.ensures.items

pub loop-child-preserved : goal.loop-child-preserved
loop-child-preserved g t c = λ only are.
    walk-next c.args.nodes.now only c.children-child-items.result.now c.loop-child.child-index _ _ _ (omega arith) (c.in_ok-meet_numbered.ensures only are) (c.loop-child.invariant only are)

pub returns : goal.returns
returns g t c = λ only are.
    let one = c.index-found-number.result in
    let within : c.args.number < length c.args.found.now = omega (arith, c.requires.within, c.requires.count) in
    let read = get_or_default c.args.found.now c.args.number Nothing one within ∙ sym c.index-found-number.is in
    let here = c.alone-only.ensures ∙ sym (ap (λ o. alone (found_copied o)) read) ∙ are c.args.number within in
    let quiet : is_some c.alone-only.result ≡ false = search rules in
    walk-ends c.args.nodes.now only c.children-child-items.result.now c.loop-child.child-index (tree_of c.args.nodes.now c.args.number) _ _ (omega arith) (sym here ∙ none_copied c.alone-only.result quiet) c.children-child-items.ensures.trees (c.loop-child.invariant only are)
