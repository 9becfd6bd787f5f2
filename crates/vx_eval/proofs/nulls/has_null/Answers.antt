use Rattle.std.proofs.Common.{ap, arith, rules, sym, ◌∙◌}
use Rattle.vx_value.specs.Types.{null, is_null_datum}
use Rattle.vx_value.specs.Views.{value_of}
use Rattle.vx_eval.specs.Columns.{rows_view}
use Rattle.vx_eval.proofs.FirstRows.{none_any, null_repeated}
use Rattle.vx_eval.proofs.nulls.has_null.Goals as goal

pub returns-then-count-gt0 : goal.returns-then-count-gt0
returns-then-count-gt0 c =
    search rules ∙ sym (null_repeated c.args.count c.in-Same.field-1 (rows_view c.args.fill.now) (value_of c.in-Same.value.now) (ap rows_view c.in-Same.is) c.requires (omega arith))

pub returns : goal.returns
returns c = sym (none_any is_null_datum null (rows_view c.args.fill.now) (λ k h. c.loop-i.invariant k (omega arith)))
