use Rattle.std.proofs.Common.{[], length, ap, sym, ◌∙◌, arith, refl, rules, get_or}
use Rattle.std.proofs.Output.{has_written_append, has_written_of_eq, writes_in_calls_nil}
use Rattle.vx_value.specs.Fields.{data_of, field_count}
use Rattle.vx_value.specs.StructColumns.{row_at}
use Rattle.vx_value.specs.Texts.{with_commas}
use Rattle.vx_value.specs.Types.{null}
use Rattle.vx_value.specs.ValueTexts.{row_texts, value_text}
use Rattle.vx_value.specs.Views.{type_of, fields_view}
use Rattle.vx_array.specs.Rows.{lanes_rows, lanes_each, structs_from}
use Rattle.vx_array.proofs.Reading.{struct_missing, struct_there}
use Rattle.vx_array.specs.Shown.{shown}
use Rattle.vx_array.proofs.Counts.{counts, count-Structs, lanes_count, no_more}
use Rattle.vx_array.proofs.Held.{rows-Structs}
use Rattle.vx_array.proofs.Written.{fields_text_next, fields_text_all, row_long, row_there}
use Rattle.vx_array.proofs.texts.+texts.Goals as goal

pub write_fields-loop-i-init : goal.write_fields-loop-i-init
write_fields-loop-i-init g t c = λ plain.
    let names = c.as_slice-names.ensures ∙ c.names.ensures.names in
    let fields = ap (λ ns. fields_view ns c.types-types.result.now) names ∙ c.types-types.ensures.fields in
    ([], record { wrote = writes_in_calls_nil _ _; plain = plain }, ap (λ fs. with_commas (row_texts (data_of (row_at c.args.row (lanes_each c.args.lanes.now))) fs)) fields)

pub write_fields-loop-i-preserved : goal.write_fields-loop-i-preserved
write_fields-loop-i-preserved g t c = λ plain.
    let (done, wrote, left) = c.loop-i.invariant plain in
    let count = ap length c.as_slice-names.ensures in
    let long = row_long c.args.row c.args.lanes.now in
    let comma = c.write_str.ensures.writes wrote.plain (search rules) in
    let named = c.in_ok-write_named.ensures comma.plain refl in (
      _,
      has_written_append _ _ _ _ _ _ (has_written_append _ _ _ _ _ _ wrote comma) named,
      fields_text_next c.as_slice-names.result.now (row_at c.args.row (lanes_each c.args.lanes.now)) c.types-types.result.now c.loop-i.i c.index-names-i.result (get_or (lanes_rows c.index-lanes-i.result) c.args.row null) c.index-types-i.result done _ _
          (omega arith) (omega arith) (omega arith) c.index-names-i.is (row_there c.args.row c.args.lanes.now c.loop-i.i c.index-lanes-i.result (omega arith) c.index-lanes-i.is) c.index-types-i.is c.separator.ensures left,
    )

pub write_fields-returns : goal.write_fields-returns
write_fields-returns g t c = λ plain ok.
    let (done, wrote, left) = c.loop-i.invariant plain in
    let names = c.as_slice-names.ensures ∙ c.names.ensures.names in
    let fields = ap (λ ns. fields_view ns c.types-types.result.now) names ∙ c.types-types.ensures.fields in
    let count = ap field_count fields in
    let long = row_long c.args.row c.args.lanes.now in
    has_written_of_eq _ _ _ _ _ (fields_text_all c.as_slice-names.result.now (row_at c.args.row (lanes_each c.args.lanes.now)) c.types-types.result.now c.loop-i.i done _ (omega arith) left) wrote

pub write_struct_row-returns-then-has_row : goal.write_struct_row-returns-then-has_row
write_struct_row-returns-then-has_row g t c plain ok =
    let there = struct_there c.args.validity.now c.args.stretch.from c.args.stretch.len (lanes_each c.args.lanes.now) c.args.i (sym c.has_row.ensures ∙ c.if-has_row.true) in
    has_written_of_eq _ _ _ _ _ (ap (λ v. value_text v (type_of c.args.t.now)) there) (c.write_struct.ensures plain ok)

pub write_struct_row-returns : goal.write_struct_row-returns
write_struct_row-returns g t c plain ok =
    let none = struct_missing c.args.validity.now c.args.stretch.from c.args.stretch.len (lanes_each c.args.lanes.now) c.args.i (sym c.has_row.ensures ∙ c.if-has_row.false) in
    has_written_of_eq _ _ _ _ _ (ap (λ v. value_text v (type_of c.args.t.now)) none) (c.write_str.ensures.writes plain ok)

pub write_row-write_struct_row-requires : goal.write_row-write_struct_row-requires
write_row-write_struct_row-requires g t c κs within =
    let s = c.in-Structs in
    let same = c.as_slice-in-Structs.ensures.value ∙ ap (λ v. v.items) c.deref.ensures in
    let one = ap lanes_count s.is ∙ count-Structs s.fields s.stretch s.validity in
    (omega (arith, c.decreases, one, ap counts same), within)

pub write_fields-write_named-requires : goal.write_fields-write_named-requires
write_fields-write_named-requires g t c κs within =
    let below = no_more c.args.lanes.now c.loop-i.i c.index-lanes-i.result (omega arith) c.index-lanes-i.is in
    (omega (arith, c.decreases, below), within)

pub write_row-returns-in-Structs : goal.write_row-returns-in-Structs
write_row-returns-in-Structs g t c plain ok =
    let s = c.in-Structs in
    let same = c.as_slice-in-Structs.ensures.value ∙ ap (λ v. v.items) c.deref.ensures in
    let rows = ap lanes_rows s.is ∙ rows-Structs s.fields s.stretch s.validity in
    let here = ap (λ fs. get_or (shown s.validity (structs_from s.stretch.from s.stretch.len (lanes_each fs))) c.args.i null) same ∙ ap (λ l. get_or l c.args.i null) (sym rows) in
    has_written_of_eq _ _ _ _ _ (ap (λ v. value_text v (type_of c.args.t.now)) here) (c.write_struct_row.ensures plain ok)
