use Rattle.std.proofs.Common.{length}
use Rattle.vx_fn.proofs.typing.case.+joined_branches.Given as goal

abbrev pub decreases-joined_branches : goal.decreases-joined_branches
decreases-joined_branches g l = length l.children.now
