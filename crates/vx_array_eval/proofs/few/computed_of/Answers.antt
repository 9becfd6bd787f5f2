use Rattle.std.proofs.Common.{◌∙◌, ap, subst, ◌∷◌}
use Rattle.vx_value.specs.Types.{atomic, floating, number}
use Rattle.vx_value.specs.Views.{admits_null, type_of}
use Rattle.vx_array_kernels.specs.Asked.{arithmetic_of}
use Rattle.vx_array_kernels.specs.Results.{FindsResults}
use Rattle.vx_array_eval.proofs.Given.{float_typed, number_typed, results_found}
use Rattle.vx_array_eval.proofs.few.computed_of.Goals as goal

pub returns-in-Some-Primitive : goal.returns-in-Some-Primitive
returns-in-Some-Primitive c =
    let m = c.in-Some-Primitive in
    let first = m.ensures in
    let a = arithmetic_of c.args.computation in
    results_found c.args.node c.args.pair a (atomic (number m.number)) (admits_null m.field-0-1) first.0 c.compute.result c.requires.computes c.requires.two c.requires.count (first.1 ∙ ap (λ t. type_of t ∷ first.0) m.field-0-is ∙ ap (λ u. u ∷ first.0) (number_typed m.number m.field-0-1))
    (subst (λ p. FindsResults a (atomic (number p)) c.args.pair c.compute.result) m.number-is c.compute.ensures)

pub returns-in-Some-Float : goal.returns-in-Some-Float
returns-in-Some-Float c =
    let m = c.in-Some-Float in
    let first = m.ensures in
    results_found c.args.node c.args.pair (arithmetic_of c.args.computation) (atomic (floating m.field-0-0)) (admits_null m.field-0-1) first.0 c.compute_floats.result c.requires.computes c.requires.two c.requires.count (first.1 ∙ ap (λ t. type_of t ∷ first.0) m.field-0-is ∙ ap (λ u. u ∷ first.0) (float_typed m.field-0-0 m.field-0-1))
    (c.compute_floats.ensures m.field-0-0)
