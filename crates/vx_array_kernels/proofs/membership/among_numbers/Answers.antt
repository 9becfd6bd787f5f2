use Rattle.std.proofs.Common.{map}
use Rattle.vx_value.specs.Types.{int}
use Rattle.vx_value.specs.Views.{data_view}
use Rattle.vx_array.specs.Kinds.{numbers_in}
use Rattle.vx_array.specs.Shown.{shown}
use Rattle.vx_array_kernels.proofs.Among.{numbers_members, numbers_null, told_there}
use Rattle.vx_array_kernels.proofs.Beside.{numbers_there}
use Rattle.vx_array_kernels.proofs.membership.among_numbers.Goals as goal

pub numbers_told-requires : goal.numbers_told-requires
numbers_told-requires c = (numbers_there c.args.validity.now (numbers_in c.args.numbers.now) c.args.count c.requires).0

pub told_lanes-requires : goal.told_lanes-requires
told_lanes-requires c =
    let ws = data_view c.args.items.now in
    let ns = numbers_in c.args.numbers.now in
    let v = c.args.validity.now in
    let are = rw c.in-Some.is at c.in_ok-told.ensures in
    told_there ws c.in_ok-validity.validity c.in-Some.told (shown v (map int ns)) (numbers_null v c.in_ok-validity.validity ns c.in_ok-validity.ensures.cases) (numbers_members ws v ns c.args.count c.in-Some.told c.requires are)

pub returns : goal.returns
returns c =
    let ws = data_view c.args.items.now in
    let ns = numbers_in c.args.numbers.now in
    let v = c.args.validity.now in
    let are = rw c.in-Some.is at c.in_ok-told.ensures in
    c.in_ok-told_lanes.ensures (shown v (map int ns)) (numbers_null v c.in_ok-validity.validity ns c.in_ok-validity.ensures.cases) (numbers_members ws v ns c.args.count c.in-Some.told c.requires are)
