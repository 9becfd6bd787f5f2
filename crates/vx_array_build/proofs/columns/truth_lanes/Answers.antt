use Rattle.std.proofs.Common.{map}
use Rattle.vx_value.specs.Types.{bool}
use Rattle.vx_array.proofs.Held.{rows-Bools}
use Rattle.vx_array_build.proofs.Filling.{lanes_filled}
use Rattle.vx_array_build.proofs.columns.truth_lanes.Goals as goal

pub returns-in_ok-validity_of-in-Some : goal.returns-in_ok-validity_of-in-Some
returns-in_ok-validity_of-in-Some c =
    let v = c.in_ok-validity_of-in-Some.field-0 in
    lanes_filled v (map bool c.in-Some.bits) c.args.rows.now _ (rows-Bools c.in-Some.bits v) (rw c.in-Some.is at c.in_ok-bits.ensures) c.in_ok-validity_of-in-Some.ensures
