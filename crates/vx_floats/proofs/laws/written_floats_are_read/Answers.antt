use Rattle.vx_floats.proofs.FloatsAgain.{float_again}
use Rattle.vx_floats.proofs.laws.written_floats_are_read.Goals as goal

pub returns : goal.returns
returns c = float_again c.args.number
