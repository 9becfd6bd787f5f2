use Rattle.vx_array_build.proofs.Rowed.{all_behind}
use Rattle.vx_array_build.proofs.valid_rows.valid_behind.Goals as goal

pub returns-in-All-All : goal.returns-in-All-All
returns-in-All-All c = all_behind c.args.rows c.args.count c.args.valid c.args.validity.now c.in-All-All.is-0 c.in-All-All.is-1
