use Rattle.std.proofs.Common.{rules, refl, ap, ◌∷◌, []}
use Rattle.vx_value.specs.Views.{value_of}
use Rattle.vx_fn.specs.Functions.{list_contains}
use Rattle.vx_eval.specs.Columns.{rows_view}
use Rattle.vx_eval.proofs.Filled.{evaluated}
use Rattle.vx_eval.proofs.Gathered.{repeated_first}
use Rattle.vx_eval.proofs.membership.list_contains.Goals as goal

pub returns-in-Same : goal.returns-in-Same
returns-in-Same c = λ ts.
    repeated_first list_contains ts c.args.count c.in-Same.field-1 (rows_view c.args.list.now) (rows_view c.args.needle.now) (value_of c.in-Same.value.now) _
    (ap rows_view c.in-Same.is) c.requires.list (c.in_one.ensures ts)

pub returns : goal.returns
returns c = λ ts.
    evaluated list_contains ts c.args.count (rows_view c.args.list.now ∷ rows_view c.args.needle.now ∷ []) _ refl (c.told.ensures.rows _ (λ i t lt p. search rules)) c.told.ensures.memory
