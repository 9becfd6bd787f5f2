use Rattle.std.proofs.Common.{length}
use Rattle.vx_fn.proofs.typing.case.+are_truths.Given as goal

abbrev pub decreases-are_truths : goal.decreases-are_truths
decreases-are_truths g l = length l.children.now
