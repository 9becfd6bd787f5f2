use Rattle.vx_literals.proofs.DecimalsAgain.{decimal_again}
use Rattle.vx_literals.proofs.laws.decimals_are_read_back.Goals as goal

pub returns : goal.returns
returns c = λ small. decimal_again c.args.units c.args.scale small c.requires
