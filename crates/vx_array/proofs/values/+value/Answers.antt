use Rattle.std.proofs.Common.{ap, sym, ◌∙◌, get_or, ◌+◌}
use Rattle.vx_value.specs.Fields.{data_of}
use Rattle.vx_value.specs.StructColumns.{row_at}
use Rattle.vx_value.specs.Types.{null, struct_of}
use Rattle.vx_array.specs.Rows.{lanes_rows, lanes_each}
use Rattle.vx_array.proofs.Held.{rows-Structs}
use Rattle.vx_array.proofs.Reading.{struct_missing, struct_there, value_of-Null, value_of-Struct}
use Rattle.vx_array.proofs.values.+value.Goals as goal

pub value_at-returns-in_ok-items_at-in-Structs : goal.value_at-returns-in_ok-items_at-in-Structs
value_at-returns-in_ok-items_at-in-Structs t c =
    let s = c.in-Structs in
    let cs = lanes_each s.fields.value.items in
    value_of-Struct c.in_ok-items_at-in-Structs.field-0
    ∙ ap (λ l. struct_of (data_of l)) (c.in_ok-items_at-in-Structs.ensures ∙ ap (λ fs. row_at (s.stretch.from + c.args.i) (lanes_each fs)) (c.as_slice-then-has_row.ensures.value ∙ ap (λ v. v.items) c.deref.ensures))
    ∙ struct_there s.validity s.stretch.from s.stretch.len cs c.args.i (sym c.has_row.ensures ∙ c.if-has_row.true)
    ∙ ap (λ l. get_or l c.args.i null) (sym (ap lanes_rows s.is ∙ rows-Structs s.fields s.stretch s.validity))

pub value_at-returns-else-has_row : goal.value_at-returns-else-has_row
value_at-returns-else-has_row t c =
    let s = c.in-Structs in
    value_of-Null
    ∙ struct_missing s.validity s.stretch.from s.stretch.len (lanes_each s.fields.value.items) c.args.i (sym c.has_row.ensures ∙ c.if-has_row.false)
    ∙ ap (λ l. get_or l c.args.i null) (sym (ap lanes_rows s.is ∙ rows-Structs s.fields s.stretch s.validity))
