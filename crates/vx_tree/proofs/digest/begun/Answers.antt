use Rattle.std.proofs.Common.{rules}
use Rattle.vx_tree.specs.Digests.{begun}
use Rattle.vx_tree.proofs.digest.begun.Goals as goal

pub returns : goal.returns
unfolding begun
returns c = search rules
