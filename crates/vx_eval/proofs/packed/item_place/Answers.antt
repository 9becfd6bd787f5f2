use Rattle.vx_eval.proofs.PackedItems.{place_of_first, place_takes}
use Rattle.vx_eval.proofs.packed.item_place.Goals as goal

pub returns-in-GetItem-clause-place : goal.returns-in-GetItem-clause-place
returns-in-GetItem-clause-place c = place_of_first _ _ _ _ _ c.in-GetItem.is c.requires.typed c.index-children-0.is c.packed_place.ensures

pub returns-in-GetItem-clause-takes : goal.returns-in-GetItem-clause-takes
returns-in-GetItem-clause-takes c =
    place_takes _ _ _ c.requires.typed c.requires.children (place_of_first _ _ _ _ _ c.in-GetItem.is c.requires.typed c.index-children-0.is c.packed_place.ensures)
