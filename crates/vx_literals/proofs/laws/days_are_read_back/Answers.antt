use Rattle.vx_literals.proofs.ReadBack.{day_again}
use Rattle.vx_literals.proofs.laws.days_are_read_back.Goals as goal

pub returns : goal.returns
returns c = day_again c.args.day
