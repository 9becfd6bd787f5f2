use Rattle.std.proofs.Common.{◌≡◌, ◌+◌, [], ◌∙◌, ap, sym, subst, get_or, length, IfOk}
use Rattle.std.proofs.lemmas.Bool.{ltb-true, ltb-false}
use Rattle.vx_value.specs.Items.{item_at}
use Rattle.vx_value.specs.Types.{null}
use Rattle.vx_value.specs.Views.{value_of}
use Rattle.vx_array.specs.Rows.{lanes_rows, lanes_each, structs_from}
use Rattle.vx_array.specs.Shown.{shown}
use Rattle.vx_array.proofs.Held.{rows-Structs}
use Rattle.vx_array.proofs.Itemed.{item_behind, no_item_behind}
use Rattle.vx_array.proofs.Picked.{field_rows}
use Rattle.vx_array.proofs.Reading.{struct_missing, value_of-Null}
use Rattle.vx_array.proofs.items.item_in.Goals as goal

pub returns-else-has_row : goal.returns-else-has_row
returns-else-has_row c =
    let s = c.in-Structs in
    value_of-Null
    ∙ ap (item_at c.args.place) (struct_missing s.validity s.stretch.from s.stretch.len (lanes_each s.fields.value.items) c.args.i (sym c.has_row.ensures ∙ c.if-has_row.false) ∙ ap (λ l. get_or l c.args.i null) (sym (ap lanes_rows s.is ∙ rows-Structs s.fields s.stretch s.validity)))

pub returns-in-Some-get : goal.returns-in-Some-get
returns-in-Some-get c =
    let s = c.in-Structs in
    let field = c.in-Some-get.field.now in
    let fields = c.deref-then-has_row.result.now in
    let same : s.fields.value.items ≡ fields = sym (c.deref-then-has_row.ensures.value ∙ ap (λ u. u.items) c.deref.ensures) in
    let column : get_or (lanes_each s.fields.value.items) c.args.place [] ≡ lanes_rows field = ap (λ l. get_or (lanes_each l) c.args.place []) same ∙ field_rows fields c.args.place field (ltb-true c.args.place (length fields) (sym c.in-Some-get.ensures.lookup.0)) c.in-Some-get.ensures.lookup.1 in
    let item : get_or (lanes_rows field) (s.stretch.from + c.args.i) null ≡ item_at c.args.place (get_or (lanes_rows c.args.lanes.now) c.args.i null) =
    item_behind c.args.place s.stretch.from s.stretch.len c.args.i s.validity (lanes_each s.fields.value.items) (lanes_rows field) (lanes_rows c.args.lanes.now) (ap lanes_rows s.is ∙ rows-Structs s.fields s.stretch s.validity) column (sym c.has_row.ensures ∙ c.if-has_row.true) in
    subst (λ d. IfOk c.behind.result (λ v. value_of v ≡ d)) item c.behind.ensures

pub returns-in-None-get : goal.returns-in-None-get
returns-in-None-get c =
    let s = c.in-Structs in
    let fields = c.deref-then-has_row.result.now in
    let same : s.fields.value.items ≡ fields = sym (c.deref-then-has_row.ensures.value ∙ ap (λ u. u.items) c.deref.ensures) in
    value_of-Null
    ∙ no_item_behind c.args.place s.stretch.from s.stretch.len c.args.i s.validity fields (lanes_rows c.args.lanes.now) (ap lanes_rows s.is ∙ rows-Structs s.fields s.stretch s.validity ∙ ap (λ l. shown s.validity (structs_from s.stretch.from s.stretch.len (lanes_each l))) same)
    (ltb-false c.args.place (length fields) (sym c.in-None-get.ensures.lookup.0)) (sym c.has_row.ensures ∙ c.if-has_row.true)
