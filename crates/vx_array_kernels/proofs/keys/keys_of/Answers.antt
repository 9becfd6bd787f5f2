use Rattle.std.proofs.Common.{◌≡◌, ◌∙◌, ap, map, subst}
use Rattle.std.proofs.Math.ListN.{replicate}
use Rattle.vx_value.specs.Types.{int}
use Rattle.vx_value.specs.Views.{value_of}
use Rattle.vx_array.specs.Kinds.{numbers_in}
use Rattle.vx_array.specs.Rows.{lanes_rows}
use Rattle.vx_array.specs.Shown.{shown}
use Rattle.vx_array.proofs.Held.{rows-Floats, rows-Numbers, rows-Same}
use Rattle.vx_array_kernels.specs.Keys.{IsReal, key_row}
use Rattle.vx_array_kernels.proofs.Keyed.{floats_keyed, same_keyed}
use Rattle.vx_array_kernels.proofs.keys.keys_of.Goals as goal

pub returns-in_ok-clone-in-Some : goal.returns-in_ok-clone-in-Some
returns-in_ok-clone-in-Some c =
    let m = c.in-Floats in
    let keys = c.in-Some.keys in
    let v = c.in_ok-clone-in-Some.field-0 in
    let format = rw c.in-Some.is at c.in_ok-keys-in-Floats.ensures.format in
    let are = rw c.in-Some.is at c.in_ok-keys-in-Floats.ensures.keys in
    floats_keyed c.args.float_type m.floats m.validity (numbers_in keys) (lanes_rows c.args.lanes.now) _ format are (ap lanes_rows m.is ∙ rows-Floats m.floats m.validity) (rows-Numbers keys v ∙ ap (λ u. shown u (map int (numbers_in keys))) c.in_ok-clone-in-Some.ensures.cases)

pub returns-in_ok-new-in-Some-value_key : goal.returns-in_ok-new-in-Some-value_key
returns-in_ok-new-in-Some-value_key c =
    let m = c.in-Same in
    let f = c.args.float_type in
    let one = c.in_ok-new-in-Some-value_key.field-0 in
    let told = c.in-Some-value_key in
    let d = value_of m.value.value in
    let real : IsReal f d = subst (λ u. IsReal f (value_of u)) c.as_ref.ensures told.ensures.real in
    let key : value_of told.key ≡ key_row d = told.ensures.key ∙ ap (λ u. key_row (value_of u)) c.as_ref.ensures in
    same_keyed f m.count d (value_of told.key) (lanes_rows c.args.lanes.now) _ real key (ap lanes_rows m.is ∙ rows-Same m.value m.count) (rows-Same one m.count ∙ ap (λ u. replicate m.count (value_of u)) c.in_ok-new-in-Some-value_key.ensures.ok)
