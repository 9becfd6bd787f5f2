use Rattle.std.proofs.Common.{◌≡◌, ◌∙◌, ℕ, ◌<◌, ap, false, get_or, length, map, rules, true}
use Rattle.vx_value.specs.Types.{bool}
use Rattle.vx_value.specs.Views.{data_view}
use Rattle.vx_fn.specs.Values.{has_null}
use Rattle.vx_array.specs.declared.validity.Validity.TheVariants.{Rows}
use Rattle.vx_array.specs.Shown.{is_valid, masked}
use Rattle.vx_array.proofs.Held.{rows-Bools}
use Rattle.vx_array_kernels.proofs.Members.{members_masked, members_shown}
use Rattle.vx_array_kernels.proofs.membership.told_lanes.Goals as goal

pub returns-then-not-has_null : goal.returns-then-not-has_null
returns-then-not-has_null c = λ rows nulls tells.
    let ws = data_view c.args.items.now in
    let none : has_null ws ≡ false = search rules in
    members_shown ws c.args.validity rows c.args.told c.in_ok-new.field-0 _ nulls tells none c.in_ok-new.ensures (rows-Bools c.in_ok-new.field-0 c.args.validity)

pub returns : goal.returns
returns c = λ rows nulls tells.
    let ws = data_view c.args.items.now in
    let told = c.args.told in
    let valid = c.in_ok-sure.sure in
    let bits = c.in_ok-new-2.field-0 in
    let sure = c.in_ok-sure-2.sure in
    let one : has_null ws ≡ true = search rules in
    let each : (k : ℕ) → k < length told → get_or valid k false ≡ is_valid c.args.validity k = λ k lt. c.in_ok-sure.ensures.each k (rw c.len.ensures lt) in
    members_masked ws c.args.validity rows told bits valid c.and_with.new.self _ nulls tells one c.in_ok-new-2.ensures (c.in_ok-sure.ensures.long ∙ c.len.ensures) each c.and_with.ensures
    (rows-Bools bits (Rows sure) ∙ ap (λ s. masked s (map bool bits)) c.in_ok-sure-2.ensures)
