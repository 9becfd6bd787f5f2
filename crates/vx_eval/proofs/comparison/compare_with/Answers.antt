use Rattle.std.proofs.Common.{◌≡◌, rules, ap, sym, ◌∙◌, ◌∷◌, [], map, length, get_or, Ok}
use Rattle.std.proofs.Math.ListN.{replicate}
use Rattle.std.proofs.lemmas.List.{get_or-replicate}
use Rattle.vx_value.specs.Types.{Datum, null}
use Rattle.vx_value.specs.Views.{value_of}
use Rattle.vx_fn.specs.Functions.{binary}
use Rattle.vx_fn.specs.Values.{binary_value}
use Rattle.vx_fn.specs.Views.{operation_of}
use Rattle.vx_eval.specs.Columns.{values_of, rows_view, item_at, truth_datum}
use Rattle.vx_eval.specs.Items.{conjoined}
use Rattle.vx_eval.proofs.Conjoined.{conjoined_alone}
use Rattle.vx_eval.proofs.Filled.{evaluated, comparison_quiet, compared_with, map_map}
use Rattle.vx_eval.proofs.comparison.compare_with.Goals as goal

pub returns-in_ok-new-in-Item : goal.returns-in_ok-new-in-Item
returns-in_ok-new-in-Item c = λ ts.
    let op = operation_of c.args.operator in
    let d = value_of c.args.value.now in
    let place = c.in-Item.place in
    let rows = values_of c.in-Item.rows.now in
    let told = λ (v : Datum). binary_value op v d in
    let alone : c.in_ok-new-in-Item.field-0 ≡ map told (rows_view c.args.lhs.now) =
    c.in_ok-new-in-Item.ensures ∙ ap (λ i. conjoined (length i) (i ∷ [])) c.new-item.ensures ∙ conjoined_alone op place d rows c.requires.comparison
    ∙ sym (map_map told (item_at place) rows) ∙ ap (λ r. map told (rows_view r)) (sym c.in-Item.is) in
    compared_with op ts c.args.count (rows_view c.args.lhs.now) d c.requires.comparison c.requires.left ∙ ap Ok (sym alone)

pub returns-in_default : goal.returns-in_default
returns-in_default c = λ ts.
    let op = operation_of c.args.operator in
    let d = value_of c.args.value.now in
    evaluated (binary op) ts c.args.count (rows_view c.args.lhs.now ∷ replicate c.args.count d ∷ []) _ (comparison_quiet _ ts _ c.requires.comparison)
    (c.told.ensures.rows _ (λ i t lt p.
    let here : truth_datum t ≡ binary_value op (get_or (rows_view c.args.lhs.now) i null) d = search rules in
    here ∙ ap (binary_value op (get_or (rows_view c.args.lhs.now) i null)) (sym (get_or-replicate c.args.count i d null lt))))
    c.told.ensures.memory
