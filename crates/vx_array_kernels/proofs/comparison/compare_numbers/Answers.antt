use Rattle.vx_array.specs.Kinds.{numbers_in}
use Rattle.vx_array.specs.Rows.{lanes_rows}
use Rattle.vx_array_kernels.proofs.Told.{told_shown}
use Rattle.vx_array_kernels.proofs.comparison.compare_numbers.Goals as goal

pub returns-in_ok-truths-in-Some : goal.returns-in_ok-truths-in-Some
returns-in_ok-truths-in-Some c =
    let are = rw c.in-Some.is at c.in_ok-told_of.ensures in
    told_shown c.args.comparison c.args.validity.now (numbers_in c.args.numbers.now) c.args.number.now c.in-Some.told (lanes_rows c.in_ok-truths-in-Some.field-0) are c.in_ok-truths-in-Some.ensures
