use Rattle.std.proofs.Common.{◌∙◌}
use Rattle.vx_value.specs.Views.{type_of, value_of}
use Rattle.vx_source_types.proofs.Fitted.{fits_of}
use Rattle.vx_source_types.proofs.literal.fitting.Goals as goal

pub returns : goal.returns
returns c = c.ok.ensures.value ∙ fits_of (type_of c.args.dtype) (value_of c.args.value) c.try_new.result c.try_new.ensures
