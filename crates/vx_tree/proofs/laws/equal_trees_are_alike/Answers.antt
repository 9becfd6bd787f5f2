use Rattle.std.proofs.Common.{ap}
use Rattle.vx_tree.specs.Equality.{equal_bound-Decides}
use Rattle.vx_tree.specs.Hashes.{tree_alike, bound_alike}
use Rattle.vx_tree.specs.Meaning.{value}
use Rattle.vx_tree.proofs.laws.equal_trees_are_alike.Goals as goal

pub returns : goal.returns
returns c = (tree_alike.fed, λ b d same. (bound_alike.fed b d same, λ v. ap (λ x. value x v) ((equal_bound-Decides b d).0 same)))
