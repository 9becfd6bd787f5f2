use Rattle.vx_tree.specs.Equality.{equal_tree-Decides, equal_bound-Decides}
use Rattle.vx_tree.proofs.laws.equality_is_exact.Goals as goal

pub returns : goal.returns
returns c = (equal_tree-Decides, equal_bound-Decides)
