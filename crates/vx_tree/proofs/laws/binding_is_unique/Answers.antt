use Rattle.vx_tree.proofs.Unique.{binding-unbound}
use Rattle.vx_tree.proofs.laws.binding_is_unique.Goals as goal

pub returns : goal.returns
returns c = binding-unbound
