use Rattle.vx_value.specs.Views.{type_of, fields_of}
use Rattle.vx_projection.proofs.Sizes.{type_size, fields_size}
use Rattle.vx_prune.proofs.places.+places.Given as goal

abbrev pub decreases-push_places : goal.decreases-push_places
decreases-push_places l = type_size (type_of l.dtype.now)

abbrev pub decreases-push_fields : goal.decreases-push_fields
decreases-push_fields l = fields_size (fields_of l.fields.now)
