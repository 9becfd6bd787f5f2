use Rattle.std.proofs.Common.{length}
use Rattle.vx_rewrite_folding.proofs.constants.+are_literals.Given as goal

abbrev pub decreases-are_literals : goal.decreases-are_literals
decreases-are_literals l = length l.trees.now
