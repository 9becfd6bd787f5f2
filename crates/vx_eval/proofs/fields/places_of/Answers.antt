use Rattle.vx_eval.proofs.Structs.{selection_known, names_known}
use Rattle.vx_eval.proofs.fields.places_of.Goals as goal

pub field_places-requires : goal.field_places-requires
field_places-requires c = names_known c.args.selection.now _ _ c.in_ok-names-in-Struct.ensures (selection_known c.args.selection.now _ _ _ c.in-Struct.is c.requires)
