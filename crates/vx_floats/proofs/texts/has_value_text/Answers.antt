use Rattle.std.proofs.Common.{◌∙◌}
use Rattle.vx_floats.proofs.Shown.{finite_written, infinity_written, nan_written}
use Rattle.vx_floats.proofs.texts.has_value_text.Goals as goal

pub returns-in-Nan : goal.returns-in-Nan
returns-in-Nan c = nan_written c.args.number c.in-Nan.ensures

pub returns-in-Infinite : goal.returns-in-Infinite
returns-in-Infinite c = infinity_written c.args.number _ c.in-Infinite.ensures

pub returns-in-Finite : goal.returns-in-Finite
returns-in-Finite c = c.is_some.ensures ∙ finite_written c.args.number c.in-Finite.fraction _ _ c.in-Finite.ensures c.shortest.ensures.scale
