use Rattle.vx_prune_tree.proofs.StatisticsPaths.{item_of}
use Rattle.vx_prune_tree.proofs.places.item_at.Goals as goal

pub returns-in-Struct : goal.returns-in-Struct
returns-in-Struct c = item_of _ _ _ _ _ c.in-Struct.is c.deref.ensures.value c.get.ensures.lookup
