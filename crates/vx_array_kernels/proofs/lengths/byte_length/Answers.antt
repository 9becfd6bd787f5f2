use Rattle.std.proofs.Common.{◌∙◌, ap, length, map, sym}
use Rattle.std.proofs.Math.ListN.{replicate}
use Rattle.vx_value.specs.Views.{value_of}
use Rattle.vx_fn.specs.Values.{counted_bytes}
use Rattle.vx_array.specs.Kinds.{spans_in, text_row}
use Rattle.vx_array.specs.Rows.{lanes_rows}
use Rattle.vx_array.proofs.Held.{rows-Same, rows-Texts}
use Rattle.vx_array_kernels.proofs.Chosen.{count_there}
use Rattle.vx_array_kernels.proofs.NullRows.{map-replicate}
use Rattle.vx_array_kernels.proofs.lengths.byte_length.Goals as goal

pub lengths_of-requires-clause-there : goal.lengths_of-requires-clause-there
lengths_of-requires-clause-there c =
    let m = c.in-Texts in
    (count_there text_row m.validity (spans_in m.spans) c.len.result (ap length (sym (ap lanes_rows m.is ∙ rows-Texts m.spans m.validity)) ∙ sym c.len.ensures)).0

pub returns-in_ok-length-in-Same : goal.returns-in_ok-length-in-Same
returns-in_ok-length-in-Same c =
    let m = c.in-Same in
    let made = c.in_ok-length-in-Same in
    let d = value_of m.value.value in
    rows-Same made.length m.count ∙ ap (replicate m.count) (ap value_of made.ensures.ok ∙ c.counted.ensures ∙ ap (λ v. counted_bytes (value_of v)) c.as_ref.ensures)
    ∙ sym (map-replicate counted_bytes m.count d) ∙ ap (map counted_bytes) (sym (ap lanes_rows m.is ∙ rows-Same m.value m.count))
