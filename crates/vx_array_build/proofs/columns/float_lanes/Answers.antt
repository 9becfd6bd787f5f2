use Rattle.std.proofs.Common.{map}
use Rattle.vx_value.specs.Types.{int}
use Rattle.vx_array_build.specs.FloatBits.{float_row}
use Rattle.vx_array_build.proofs.Filling.{lanes_filled}
use Rattle.vx_array_build.proofs.Reals.{rows_by_bits}
use Rattle.vx_array_build.proofs.columns.float_lanes.Goals as goal

pub returns-in_ok-validity-in-Some : goal.returns-in_ok-validity-in-Some
returns-in_ok-validity-in-Some g c =
    let f = g.T.FloatBits.format in
    let v = c.in_ok-validity-in-Some.validity in
    let zs = map g.T.Number.number c.in-Some.part in
    lanes_filled v (map (float_row f) (map int zs)) c.args.rows.now _ (rows_by_bits f c.floats.result v zs c.floats.ensures.format c.floats.ensures.bits) (rw c.in-Some.is at c.in_ok-part.ensures) c.in_ok-validity-in-Some.ensures
