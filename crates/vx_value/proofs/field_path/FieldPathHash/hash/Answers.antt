use Rattle.std.proofs.lemmas.List.{length-map}
use Rattle.std.proofs.lemmas.List.Folds.{flat_map-map}
use Rattle.vx_value.proofs.field_path.FieldPathHash.hash.Goals as goal

pub returns : goal.returns
returns g c = rw (← c.self.view_is) (simp (length-map, flat_map-map) c.hash.ensures)
