use Rattle.std.proofs.Common.{length}
use Rattle.vx_projection.proofs.lost.+check_path.Given as goal

abbrev pub decreases-check_path : goal.decreases-check_path
decreases-check_path l = length l.path.now
