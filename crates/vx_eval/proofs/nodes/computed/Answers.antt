use Rattle.std.proofs.Common.{◌∙◌, ◌∷◌, ap, subst, sym}
use Rattle.vx_value.specs.Views.{type_of}
use Rattle.vx_fn.specs.Functions.{binary, computes}
use Rattle.vx_eval.specs.Columns.{rows_views, Evaluates}
use Rattle.vx_eval.proofs.nodes.computed.Goals as goal

pub returns : goal.returns
returns c = λ ts.
    subst (λ cs. Evaluates (binary (computes c.args.arithmetic)) (type_of c.args.dtype.now ∷ ts) c.args.count cs c.compute.result) (sym (ap rows_views (sym c.as_slice.ensures.value ∙ c.pair.ensures))) (c.compute.ensures ts)
