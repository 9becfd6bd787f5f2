use Rattle.std.proofs.Common.{map}
use Rattle.vx_array.specs.Kinds.{spans_in, text_row}
use Rattle.vx_array.proofs.Held.{rows-Texts}
use Rattle.vx_array_build.proofs.Filling.{lanes_filled}
use Rattle.vx_array_build.proofs.columns.text_lanes.Goals as goal

pub returns-in_ok-validity_of-in-Some : goal.returns-in_ok-validity_of-in-Some
returns-in_ok-validity_of-in-Some c =
    let v = c.in_ok-validity_of-in-Some.field-0 in
    lanes_filled v (map text_row (spans_in c.in-Some.spans)) c.args.rows.now _ (rows-Texts c.in-Some.spans v) (rw c.in-Some.is at c.in_ok-spans.ensures) c.in_ok-validity_of-in-Some.ensures
