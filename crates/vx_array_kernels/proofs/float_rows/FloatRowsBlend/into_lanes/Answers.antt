use Rattle.std.proofs.Common.{◌≡◌, ◌∙◌, ap, map, rules}
use Rattle.vx_array.specs.Rows.{lanes_rows}
use Rattle.vx_array.proofs.Found.{found_map}
use Rattle.vx_array_build.specs.FloatBits.{float_row}
use Rattle.vx_array_kernels.proofs.float_rows.FloatRowsBlend.into_lanes.Goals as goal

pub returns-in-Some : goal.returns-in-Some
returns-in-Some g c =
    let h = float_row g.F.FloatBits.format in
    let bits = lanes_rows c.in-Some.bits in
    let rows = g.B.Blend.rows c.args.self.bits in
    let held : bits ≡ rows = search rules in
    found_map c.floats_of.result (λ out. lanes_rows out ≡ map (float_row c.float_type.result) bits) (λ out. lanes_rows out ≡ map h rows)
    (λ out is. is ∙ ap (λ t. map (float_row t) bits) c.float_type.ensures ∙ ap (map h) held) c.floats_of.ensures
