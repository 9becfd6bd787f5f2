use Rattle.vx_rewrite_fusing.proofs.Binaries.{other_operator}
use Rattle.vx_rewrite_fusing.proofs.nodes.as_and.Goals as goal
