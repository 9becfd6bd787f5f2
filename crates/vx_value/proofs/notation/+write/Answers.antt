use Rattle.std.proofs.Common.{[], length, ap, ◌∙◌, arith, refl, rules}
use Rattle.std.proofs.Output.{has_written_append, has_written_of_eq, writes_in_calls_nil}
use Rattle.vx_value.specs.Fields.{field_count}
use Rattle.vx_value.specs.Notations.{row_in}
use Rattle.vx_value.specs.Texts.{with_commas}
use Rattle.vx_value.specs.Views.{type_of, fields_view, data_view}
use Rattle.vx_value.proofs.ValuesWritten.{items_in_next, items_in_all, row_in_next, row_in_all}
use Rattle.vx_value.proofs.notation.+write.Goals as goal

pub write_items-loop-i-init : goal.write_items-loop-i-init
write_items-loop-i-init g t c = λ plain. ([], record { wrote = writes_in_calls_nil _ _; plain = plain }, refl)

pub write_items-loop-i-preserved : goal.write_items-loop-i-preserved
write_items-loop-i-preserved g t c = λ plain.
    let (done, wrote, left) = c.loop-i.invariant plain in
    let comma = c.write_str.ensures.writes wrote.plain (search rules) in
    let value = c.in_ok-write_value_in.ensures comma.plain refl in (
      _,
      has_written_append _ _ _ _ _ _ (has_written_append _ _ _ _ _ _ wrote comma) value,
      items_in_next g.N.TypeNotation.named g.N.ValueNotation.words c.args.values.now (type_of c.args.t.now) c.loop-i.i c.index-values-i.result done _ _ (omega arith) c.index-values-i.is c.separator.ensures left,
    )

pub write_items-returns : goal.write_items-returns
write_items-returns g t c = λ plain ok.
    let (done, wrote, left) = c.loop-i.invariant plain in
    has_written_of_eq _ _ _ _ _ (items_in_all g.N.TypeNotation.named g.N.ValueNotation.words c.args.values.now (type_of c.args.t.now) c.loop-i.i done _ (omega arith) left) wrote

pub write_row-loop-i-preserved : goal.write_row-loop-i-preserved
write_row-loop-i-preserved g t c = λ plain.
    let (done, wrote, left) = c.loop-i.invariant plain in
    let count = ap length c.as_slice-names.ensures in
    let comma = c.write_str.ensures.writes wrote.plain (search rules) in
    let named = c.in_ok-write_named.ensures comma.plain refl in (
      _,
      has_written_append _ _ _ _ _ _ (has_written_append _ _ _ _ _ _ wrote comma) named,
      row_in_next g.N.TypeNotation.named g.N.ValueNotation.words c.as_slice-names.result.now c.args.values.now c.types-types.result.now c.loop-i.i c.index-names-i.result c.index-values-i.result c.index-types-i.result done _ _
          (omega arith) (omega arith) (omega arith) c.index-names-i.is c.index-values-i.is c.index-types-i.is c.separator.ensures left,
    )

pub write_row-returns : goal.write_row-returns
write_row-returns g t c = λ plain ok.
    let (done, wrote, left) = c.loop-i.invariant plain in
    let names = c.as_slice-names.ensures ∙ c.names.ensures.names in
    let fields = ap (λ ns. fields_view ns c.types-types.result.now) names ∙ c.types-types.ensures.fields in
    let count = ap field_count fields in
    has_written_of_eq _ _ _ _ _ (row_in_all g.N.TypeNotation.named g.N.ValueNotation.words c.as_slice-names.result.now c.args.values.now c.types-types.result.now c.loop-i.i done _ (omega arith) left) wrote

pub write_row-loop-i-init : goal.write_row-loop-i-init
write_row-loop-i-init g t c = λ plain.
    let names = c.as_slice-names.ensures ∙ c.names.ensures.names in
    let fields = ap (λ ns. fields_view ns c.types-types.result.now) names ∙ c.types-types.ensures.fields in
    ([], record { wrote = writes_in_calls_nil _ _; plain = plain }, ap (λ fs. with_commas (row_in g.N.TypeNotation.named g.N.ValueNotation.words (data_view c.args.values.now) fs)) fields)
