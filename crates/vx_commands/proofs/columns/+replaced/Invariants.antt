use Rattle.std.proofs.Common.{length}
use Rattle.vx_commands.proofs.columns.+replaced.Given as goal

abbrev pub decreases-replaced : goal.decreases-replaced
decreases-replaced l = length l.path.now
