use Rattle.std.proofs.Common.{map}
use Rattle.vx_value.specs.Types.{bytes}
use Rattle.vx_array.specs.Kinds.{spans_in}
use Rattle.vx_array.proofs.Held.{rows-Octets}
use Rattle.vx_array_build.proofs.Filling.{lanes_filled}
use Rattle.vx_array_build.proofs.columns.octet_lanes.Goals as goal

pub returns-in_ok-validity_of-in-Some : goal.returns-in_ok-validity_of-in-Some
returns-in_ok-validity_of-in-Some c =
    let v = c.in_ok-validity_of-in-Some.field-0 in
    lanes_filled v (map bytes (spans_in c.in-Some.spans)) c.args.rows.now _ (rows-Octets c.in-Some.spans v) (rw c.in-Some.is at c.in_ok-spans.ensures) c.in_ok-validity_of-in-Some.ensures
