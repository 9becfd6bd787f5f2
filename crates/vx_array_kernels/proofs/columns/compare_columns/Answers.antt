use Rattle.vx_array.specs.Kinds.{numbers_in}
use Rattle.vx_array.proofs.Held.{rows-Bools}
use Rattle.vx_array_kernels.proofs.Beside.{columns_told, numbers_held, numbers_there}
use Rattle.vx_array_kernels.proofs.columns.compare_columns.Goals as goal

pub told_of-requires-clause-numbers : goal.told_of-requires-clause-numbers
told_of-requires-clause-numbers c =
    let m = c.in-Numbers-Numbers in
    (numbers_there m.validity (numbers_in m.numbers) c.args.pair.count (numbers_held c.args.pair.lhs.now m.numbers m.validity c.args.pair.count m.is-0 c.requires.0)).0

pub told_of-requires-clause-others : goal.told_of-requires-clause-others
told_of-requires-clause-others c =
    let m = c.in-Numbers-Numbers in
    (numbers_there m.others_validity (numbers_in m.others) c.args.pair.count (numbers_held c.args.pair.rhs.now m.others m.others_validity c.args.pair.count m.is-1 c.requires.1)).0

pub returns-in_ok-new-in-Some : goal.returns-in_ok-new-in-Some
returns-in_ok-new-in-Some c =
    let m = c.in-Numbers-Numbers in
    let told = rw c.in-Some.is at c.in_ok-told_of-in-Numbers-Numbers.ensures in
    let all = c.in_ok-both-in-Some in
    let bits = c.in_ok-new-in-Some.field-0 in
    columns_told c.args.comparison c.args.pair m.validity m.others_validity all.both m.numbers m.others c.in-Some.told bits _ m.is-0 m.is-1 c.requires told c.in_ok-new-in-Some.ensures all.ensures.each all.ensures.count (rows-Bools bits all.both)
