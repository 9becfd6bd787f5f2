use Rattle.std.proofs.Common.{◌∙◌, Some, ap, sym, subst, arith}
use Rattle.std.proofs.lemmas.Grind.{common_steps}
use Rattle.std.specs.Prelude.{option_map}
use Rattle.vx_source_operands.specs.ListViews.{lent_scalars}
use Rattle.vx_source_over.specs.Reading.{Settles}
use Rattle.vx_source_over.specs.Settling.{list_from}
use Rattle.vx_source_over.proofs.Searched.{too_few, around_first, if_some}
use Rattle.vx_source_over.proofs.searching.list_around.Goals as goal

pub returns-in_default-clause-list : goal.returns-in_default-clause-list
returns-in_default-clause-list c = too_few c.args.below.now c.in_default.len_below

pub returns-in-Some-clause-list : goal.returns-in-Some-clause-list
returns-in-Some-clause-list c =
    let around = around_first c.args.below.now _ c.first-item.result _ c.in_ok-scalars.ensures (omega arith) c.first-item.is (grind (arith, common_steps)) in
    let said = around ∙ ap (λ o. list_from (option_map (λ scalars. lent_scalars scalars.items) o)) c.in-Some.is ∙ ap (λ xs. list_from (Some (lent_scalars xs))) (sym c.as_slice.ensures.value) in
    subst (λ x. Settles (λ l. l) c.list_from.result x) (sym said) c.list_from.ensures

pub returns-in-Some-clause-operand : goal.returns-in-Some-clause-operand
returns-in-Some-clause-operand c = if_some c.list_from.result _ (omega arith)

pub returns-in-None-clause-list : goal.returns-in-None-clause-list
returns-in-None-clause-list c =
    around_first c.args.below.now _ c.first-item.result _ c.in_ok-scalars.ensures (omega arith) c.first-item.is (grind (arith, common_steps))
    ∙ ap (λ o. list_from (option_map (λ scalars. lent_scalars scalars.items) o)) c.in-None.is
