use Rattle.std.proofs.Common.{◌≡◌, ap, ◌∙◌, [], get_or, map}
use Rattle.vx_array.specs.Rows.{lanes_each, lanes_rows, structs_from}
use Rattle.vx_array.specs.Shown.{shown}
use Rattle.vx_array.proofs.Held.{rows-Structs}
use Rattle.vx_array.proofs.Picked.{items_shown}
use Rattle.vx_array.proofs.lanes.Lanes.items.Goals as goal

pub returns-in_ok-clone-in-Structs : goal.returns-in_ok-clone-in-Structs
returns-in_ok-clone-in-Structs c =
    let s = c.in-Structs in
    let some = c.in_ok-some-in-Structs-2.some in
    let same : c.as_slice.result.now ≡ s.fields.value.items = c.as_slice.ensures.value ∙ ap (λ u. u.items) c.deref.ensures in
    let v = c.in_ok-clone-in-Structs.field-0 in
    items_shown c.args.places.now s.stretch.from s.stretch.len s.validity (lanes_each s.fields.value.items) (lanes_each some.value.items) (lanes_rows c.args.self.now) _ (ap lanes_rows s.is ∙ rows-Structs s.fields s.stretch s.validity)
    (rows-Structs some s.stretch v ∙ ap (λ w. shown w (structs_from s.stretch.from s.stretch.len (lanes_each some.value.items))) c.in_ok-clone-in-Structs.ensures.cases) (ap (λ u. lanes_each u.items) c.in_ok-some-in-Structs-2.ensures.ok ∙ (rw c.in-Some.is at c.in_ok-some-in-Structs.ensures) ∙ ap (λ l. map (λ p. get_or (lanes_each l) p []) c.args.places.now) same)
