use Rattle.std.proofs.Common.{rules}
use Rattle.vx_tree.specs.Digests.{with_digest}
use Rattle.vx_tree.proofs.digest.add.Goals as goal

pub returns : goal.returns
unfolding with_digest
returns c = search rules
