use Rattle.std.proofs.Common.{◌∙◌, ap, sym, map}
use Rattle.vx_value.specs.Types.{int}
use Rattle.vx_array.specs.Kinds.{numbers_in}
use Rattle.vx_array.specs.Rows.{lanes_rows}
use Rattle.vx_array.specs.Shown.{shown}
use Rattle.vx_array.proofs.Held.{rows-Numbers}
use Rattle.vx_array_build.specs.FloatBits.{float_row}
use Rattle.vx_array_build.proofs.Reals.{rows_over}
use Rattle.vx_array_build.proofs.float_bits.floats_of.Goals as goal

pub returns-in_ok-clone-in-Some : goal.returns-in_ok-clone-in-Some
returns-in_ok-clone-in-Some c =
    let m = c.in-Numbers in
    let f = c.args.float_type in
    let v = c.in_ok-clone-in-Some.field-0 in
    let format = rw c.in-Some.is at c.in_ok-floats-in-Numbers.ensures.format in
    let bits = rw c.in-Some.is at c.in_ok-floats-in-Numbers.ensures.bits in
    rows_over f c.in-Some.floats v (numbers_in m.bits) format (sym bits) ∙ ap (λ u. map (float_row f) (shown u (map int (numbers_in m.bits)))) c.in_ok-clone-in-Some.ensures.cases
    ∙ ap (map (float_row f)) (sym (ap lanes_rows m.is ∙ rows-Numbers m.bits m.validity))
