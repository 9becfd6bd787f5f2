use Rattle.std.proofs.Common.{◌∷◌, [], ap, sym, ◌∙◌}
use Rattle.std.specs.Option.{option_map}
use Rattle.vx_dtype.specs.declared.error.VortexError.TheVariants.{CastNull}
use Rattle.vx_value.specs.Views.{type_of}
use Rattle.vx_fn.specs.Functions.{cast}
use Rattle.vx_eval.specs.Columns.{rows_view}
use Rattle.vx_eval.proofs.Filled.{refused, given, all_rows}
use Rattle.vx_eval.proofs.casting.cast.Goals as goal

pub returns-in-Some : goal.returns-in-Some
returns-in-Some c = λ ts.
    refused (cast (type_of c.args.target.now)) ts c.args.count (rows_view c.args.input ∷ []) (CastNull c.in-Some.row) (ap (option_map CastNull) (sym c.first_misfit.ensures ∙ c.in-Some.is))

pub returns-in-None : goal.returns-in-None
returns-in-None c = λ ts.
    given (cast (type_of c.args.target.now)) ts c.args.count (rows_view c.args.input ∷ []) (rows_view c.args.input) (ap (option_map CastNull) (sym c.first_misfit.ensures ∙ c.in-None.is)) (sym (all_rows _ _ c.requires))
