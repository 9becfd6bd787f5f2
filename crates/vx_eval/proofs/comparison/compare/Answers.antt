use Rattle.std.proofs.Common.{rules, ap, ◌∷◌, []}
use Rattle.vx_value.specs.Views.{value_of}
use Rattle.vx_fn.specs.Functions.{binary}
use Rattle.vx_fn.specs.Views.{operation_of}
use Rattle.vx_eval.specs.Columns.{rows_view}
use Rattle.vx_eval.proofs.Filled.{evaluated, comparison_quiet, repeated_still}
use Rattle.vx_eval.proofs.comparison.compare.Goals as goal

pub returns-in-Same : goal.returns-in-Same
returns-in-Same c = λ ts.
    repeated_still (binary (operation_of c.args.operator)) ts c.args.count c.in-Same.field-1 (rows_view c.args.lhs.now) (rows_view c.args.rhs.now) (value_of c.in-Same.value.now) _
    (ap rows_view c.in-Same.is) c.requires.right (c.compare_with.ensures ts)

pub returns-in_default : goal.returns-in_default
returns-in_default c = λ ts.
    evaluated (binary (operation_of c.args.operator)) ts c.args.count (rows_view c.args.lhs.now ∷ rows_view c.args.rhs.now ∷ []) _
    (comparison_quiet _ ts _ c.requires.comparison) (c.told.ensures.rows _ (λ i t lt p. search rules)) c.told.ensures.memory
