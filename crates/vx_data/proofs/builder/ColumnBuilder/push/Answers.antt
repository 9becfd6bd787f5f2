use Rattle.std.proofs.Common.{sym, ◌∙◌}
use Rattle.vx_value.specs.Views.{type_of}
use Rattle.vx_data.proofs.Grown.{fit_after}
use Rattle.vx_data.proofs.builder.ColumnBuilder.push.Goals as goal

pub invariant_of-self-2 : goal.invariant_of-self-2
invariant_of-self-2 c =
    fit_after (type_of c.self.inside.dtype) c.self.inside.rows.items c.args.row _ _ c.push.ensures.items c.self.invariant (sym c.fits.ensures ∙ c.if-not-fits.false)
