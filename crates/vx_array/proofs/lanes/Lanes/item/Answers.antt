use Rattle.std.proofs.Common.{◌≡◌, ◌≤◌, ◌+◌, ap, sym, ◌∙◌, [], drop, get_or, length, map, take}
use Rattle.std.proofs.lemmas.Bool.{ltb-true}
use Rattle.vx_value.specs.Items.{item_at}
use Rattle.vx_array.specs.Rows.{lanes_each, lanes_rows}
use Rattle.vx_array.specs.Shown.{shown}
use Rattle.vx_array.proofs.Found.{found_map}
use Rattle.vx_array.proofs.Held.{rows-Structs}
use Rattle.vx_array.proofs.Picked.{field_rows, item_shown}
use Rattle.vx_array.proofs.lanes.Lanes.item.Goals as goal

pub returns-in-Some : goal.returns-in-Some
returns-in-Some c =
    let s = c.in-Structs in
    let from = s.stretch.from in
    let len = s.stretch.len in
    let field = c.in-Some.field.now in
    let fields = c.deref-in-Structs.result.now in
    let same : s.fields.value.items ≡ fields = sym (c.deref-in-Structs.ensures.value ∙ ap (λ u. u.items) c.deref.ensures) in
    let column : get_or (lanes_each s.fields.value.items) c.args.place [] ≡ lanes_rows field = ap (λ l. get_or (lanes_each l) c.args.place []) same ∙ field_rows fields c.args.place field (ltb-true c.args.place (length fields) (sym c.in-Some.ensures.lookup.0)) c.in-Some.ensures.lookup.1 in
    found_map c.stretched.result (λ l. (from + len ≤ length (lanes_rows field)) × (lanes_rows l ≡ shown s.validity (take len (drop from (lanes_rows field))))) (λ l. lanes_rows l ≡ map (item_at c.args.place) (lanes_rows c.args.self.now))
    (λ l found. item_shown c.args.place from len s.validity (lanes_each s.fields.value.items) (lanes_rows field) (lanes_rows c.args.self.now) (lanes_rows l) (ap lanes_rows s.is ∙ rows-Structs s.fields s.stretch s.validity) column found) c.stretched.ensures
