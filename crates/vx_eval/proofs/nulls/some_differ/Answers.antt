use Rattle.std.proofs.Common.{ap, arith, rules, sym, ◌∙◌}
use Rattle.vx_value.specs.Views.{value_of}
use Rattle.vx_eval.specs.Columns.{rows_view}
use Rattle.vx_eval.proofs.FirstRows.{none_differ, repeated_differs}
use Rattle.vx_eval.proofs.nulls.some_differ.Goals as goal

pub returns-then-count-gt1 : goal.returns-then-count-gt1
returns-then-count-gt1 c =
    search rules ∙ sym (repeated_differs c.args.count c.in-Same.field-1 (rows_view c.args.fill.now) (value_of c.in-Same.value.now) (ap rows_view c.in-Same.is) c.requires (omega arith))

pub returns : goal.returns
returns c = sym (none_differ (rows_view c.args.fill.now) (λ k h. c.loop-i.invariant k (omega arith)))
