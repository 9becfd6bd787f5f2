use Rattle.std.proofs.Common.{[], get_or, refl, sym, ap, ◌∙◌, arith, map}
use Rattle.std.specs.Prelude.{not}
use Rattle.std.proofs.lemmas.List.{length-map}
use Rattle.vx_value.specs.Types.{bytes, is_null_datum}
use Rattle.vx_array.specs.Kinds.{spans_in}
use Rattle.vx_array.proofs.Masked.{row_there, row_missing, both_so, null_unless}
use Rattle.vx_array.proofs.nulls.is_octets_null.Goals as goal

pub returns : goal.returns
returns c =
    let v = c.args.validity.now in
    let rows = spans_in c.args.spans.now in
    let i = c.args.i in
    ap not c.has_row.ensures
    ∙ null_unless _ _
    (λ e. let so = both_so v c.len.result i e in ap is_null_datum (sym (row_there bytes v rows i (get_or rows i []) [] (omega (arith, so.0, c.len.ensures)) so.1 refl)))
    (λ e. row_missing v (map bytes rows) c.len.result i (c.len.ensures ∙ sym (length-map rows bytes)) e)
