use Rattle.std.proofs.Common.{◌∙◌, ap, sym, map}
use Rattle.std.proofs.Math.ListN.{replicate}
use Rattle.vx_value.specs.Types.{int}
use Rattle.vx_value.specs.Views.{value_of}
use Rattle.vx_array.specs.Kinds.{numbers_in}
use Rattle.vx_array.specs.Rows.{lanes_rows}
use Rattle.vx_array.specs.Shown.{shown}
use Rattle.vx_array.proofs.Held.{rows-Numbers, rows-Same}
use Rattle.vx_array_build.specs.FloatBits.{float_row}
use Rattle.vx_array_build.proofs.Reals.{map-replicate, rows_over}
use Rattle.vx_array_build.proofs.float_bits.bits_of.Goals as goal

pub returns-in_ok-clone-in-Some : goal.returns-in_ok-clone-in-Some
returns-in_ok-clone-in-Some c =
    let m = c.in-Floats in
    let f = c.args.float_type in
    let ns = c.in-Some.bits in
    let format = rw c.in-Some.is at c.in_ok-bits-in-Floats.ensures.format in
    let bits = rw c.in-Some.is at c.in_ok-bits-in-Floats.ensures.bits in
    let v = c.in_ok-clone-in-Some.field-0 in
    ap (map (float_row f)) (rows-Numbers ns v ∙ ap (λ u. shown u (map int (numbers_in ns))) c.in_ok-clone-in-Some.ensures.cases)
    ∙ sym (ap lanes_rows m.is ∙ rows_over f m.floats m.validity (numbers_in ns) format (sym bits))

pub returns-in_ok-new-in-Some-bits_value : goal.returns-in_ok-new-in-Some-bits_value
returns-in_ok-new-in-Some-bits_value c =
    let m = c.in-Same in
    let f = c.args.float_type in
    let one = c.in_ok-new-in-Some-bits_value.field-0 in
    ap (map (float_row f)) (rows-Same one m.count ∙ ap (λ u. replicate m.count (value_of u)) c.in_ok-new-in-Some-bits_value.ensures.ok) ∙ map-replicate (float_row f) m.count (value_of c.in-Some-bits_value.bits)
    ∙ ap (replicate m.count) (c.in-Some-bits_value.ensures ∙ ap value_of c.as_ref.ensures) ∙ sym (ap lanes_rows m.is ∙ rows-Same m.value m.count)
