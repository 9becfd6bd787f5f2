use Rattle.std.proofs.Common.{◌≡◌, List, Bool, ap, map, take}
use Rattle.vx_value.specs.Types.{int}
use Rattle.vx_value.specs.Views.{data_view}
use Rattle.vx_fn.specs.Values.{has_element}
use Rattle.vx_array_kernels.specs.Members.{has_number}
use Rattle.vx_array_kernels.proofs.Members.{found_each, told_of_width}
use Rattle.vx_array_kernels.proofs.member_numbers.told_in.Goals as goal

pub returns-then-len-le-FEW : goal.returns-then-len-le-FEW
returns-then-len-le-FEW g c =
    told_of_width g.T.Number.number c.in-Some.others.items _ c.args.numbers.now _ (data_view c.args.items.now) c.args.count _ (rw c.in-Some.is at c.in_ok-others.ensures) c.as_slice-then-len-le-FEW.ensures.value (ap (take c.args.count) c.as_slice.ensures) c.in_ok-told_by_each.ensures

pub returns : goal.returns
returns g c =
    let numbers = c.args.numbers.now in
    let lent = c.as_slice-2.result.now in
    let first = take c.args.count c.as_slice.result.now in
    let ws = data_view c.args.items.now in
    found_each c.told_by_buckets.result (λ (told : List Bool). told ≡ map (λ (x : g.row.T.Denot). has_number g.T.Number.number lent (g.T.Number.number x)) first) (λ (told : List Bool). told ≡ map (λ n. has_element ws (int n)) (take c.args.count (map g.T.Number.number numbers)))
    (λ told are. told_of_width g.T.Number.number c.in-Some.others.items lent numbers first ws c.args.count told (rw c.in-Some.is at c.in_ok-others.ensures) c.as_slice-2.ensures.value (ap (take c.args.count) c.as_slice.ensures) are) c.told_by_buckets.ensures
