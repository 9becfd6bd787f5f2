use Rattle.vx_eval.proofs.Transposed.{first_type_of}
use Rattle.vx_eval.proofs.nodes.first_type.Goals as goal

pub returns : goal.returns
returns c = first_type_of _ _ _ c.requires c.index-children-0.is c.dtype.ensures
