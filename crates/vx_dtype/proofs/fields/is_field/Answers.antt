use Rattle.std.proofs.Common.{◌∙◌}
use Rattle.vx_dtype.specs.Views.{fields_view}
use Rattle.vx_dtype.proofs.Known.{known_found}
use Rattle.vx_dtype.proofs.fields.is_field.Goals as goal

pub returns : goal.returns
returns c = c.is_some.ensures ∙ known_found _ c.field_of.result c.args.name.now (fields_view c.args.names.now c.args.types.now) c.field_of.ensures
