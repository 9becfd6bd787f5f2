use Rattle.std.proofs.Common.{◌≡◌, rules, refl, sym, ap, ◌∙◌, ◌∷◌, [], map, get_or, Ok}
use Rattle.vx_value.specs.Types.{null}
use Rattle.vx_value.specs.Views.{type_of, value_of}
use Rattle.vx_fn.specs.Functions.{get_item}
use Rattle.vx_fn.specs.Values.{item_value}
use Rattle.vx_eval.specs.declared.rows.Rows.TheVariants.{Item}
use Rattle.vx_eval.specs.Columns.{rows_view, item_at, each_row}
use Rattle.vx_dtype.proofs.Lists.{map_same}
use Rattle.vx_eval.proofs.Filled.{evaluated, evaluated_in_place, each_of}
use Rattle.vx_eval.proofs.fields.get_item.Goals as goal

pub returns-in-Owned : goal.returns-in-Owned
returns-in-Owned c =
    let ts = type_of c.args.dtype.now ∷ [] in
    evaluated_in_place (get_item c.args.name.now) ts c.args.count (rows_view c.args.input ∷ []) c.args.input c.in-Owned.rows (λ k d. item_value c.args.name.now ts d) _ refl c.in-Owned.is c.requires.long refl
    (c.overwritten.ensures.rows (λ k d. item_value c.args.name.now ts d) (λ i x v lt p.
    let item : value_of v ≡ item_at c.place_of-place.result (value_of x) = search rules in
    item ∙ sym (c.place_of-place.ensures (value_of x))))
    c.overwritten.ensures.memory

pub returns-in-Lent : goal.returns-in-Lent
returns-in-Lent c =
    let ts = type_of c.args.dtype.now ∷ [] in
    let items : map (item_at c.place_of-place.result) (rows_view c.args.input) ≡ each_row c.args.count (λ k. item_value c.args.name.now ts (get_or (rows_view c.args.input) k null)) =
    map_same _ _ (rows_view c.args.input) (λ d _. sym (c.place_of-place.ensures d)) ∙ sym (each_of (item_value c.args.name.now ts) (rows_view c.args.input) c.args.count c.requires.long) in
    evaluated (get_item c.args.name.now) ts c.args.count (rows_view c.args.input ∷ []) (Ok (Item c.in-Lent.rows c.place_of-place.result c.new.result)) refl (ap (λ r. map (item_at c.place_of-place.result) (rows_view r)) (sym c.in-Lent.is) ∙ items) tt

pub returns-in_default : goal.returns-in_default
returns-in_default c =
    evaluated (get_item c.args.name.now) (type_of c.args.dtype.now ∷ []) c.args.count (rows_view c.args.input ∷ []) _ refl
    (c.tabulated-items.ensures.rows _ (λ i v lt p.
    let item : value_of v ≡ item_at c.place_of-place.result (get_or (rows_view c.in_default.lent) i null) = search rules in
    item ∙ ap (λ r. item_at c.place_of-place.result (get_or (rows_view r) i null)) (sym c.in_default.lent-is) ∙ sym (c.place_of-place.ensures (get_or (rows_view c.args.input) i null))))
    c.tabulated-items.ensures.memory
