use Rattle.std.proofs.Common.{◌≡◌, ◌∙◌, ap, sym, map, length, rules}
use Rattle.std.proofs.lemmas.List.{length-map}
use Rattle.vx_array.specs.Rows.{lanes_rows}
use Rattle.vx_array_build.specs.FloatBits.{float_row}
use Rattle.vx_array_kernels.proofs.float_rows.FloatRowsBlend.of.Goals as goal

pub of-requires : goal.of-requires
of-requires g c =
    let h = float_row g.F.FloatBits.format in
    let bits = lanes_rows c.in-Some.bits in
    let read : map h bits ≡ lanes_rows c.args.lanes.now = search rules in
    sym (length-map bits h) ∙ ap length read ∙ c.requires

pub returns-in-Some-2 : goal.returns-in-Some-2
returns-in-Some-2 g c =
    let h = float_row g.F.FloatBits.format in
    let bits = lanes_rows c.in-Some.bits in
    let read : map h bits ≡ lanes_rows c.args.lanes.now = search rules in
    let copied : g.B.Blend.rows c.in-Some-2.bits ≡ bits = search rules in
    ap (map h) copied ∙ read
