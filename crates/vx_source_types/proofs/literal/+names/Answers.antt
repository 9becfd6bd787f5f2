use Rattle.std.proofs.Common.{sym, ap, ◌∙◌, arith}
use Rattle.vx_value.specs.Fields.{field_count}
use Rattle.vx_value.specs.Views.{fields_view, fields_of, data_view}
use Rattle.vx_value.proofs.Lists.{count_view}
use Rattle.vx_source_types.proofs.NamesLeft.{row_left_count, row_left_end}
use Rattle.vx_source_types.proofs.literal.+names.Goals as goal

pub row_left-returns-then-items-nfields : goal.row_left-returns-then-items-nfields
row_left-returns-then-items-nfields t c =
    let vs = data_view c.args.items.now in
    sym (row_left_count vs (fields_of c.args.fields.now) c.args.names.now (λ e. c.if-items-nfields.true (sym (count_view c.args.items.now) ∙ e ∙ sym c.nfields.ensures)))

pub row_left-returns : goal.row_left-returns
row_left-returns t c =
    let known = c.as_slice-known.ensures ∙ c.names.ensures.names in
    let fields = ap (λ ns. fields_view ns c.types-types.result.now) known ∙ c.types-types.ensures.fields in
    let count = ap field_count fields in
    sym (row_left_end c.as_slice-known.result.now c.args.items.now c.types-types.result.now c.loop-i.i c.loop-i.left.now (omega arith) (omega arith)) ∙ c.loop-i.invariant
