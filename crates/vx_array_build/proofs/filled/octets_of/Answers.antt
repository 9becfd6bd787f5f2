use Rattle.std.proofs.Common.{◌≡◌, ap, arith, length, map}
use Rattle.vx_value.specs.Types.{bytes}
use Rattle.vx_array.specs.Kinds.{spans_in}
use Rattle.vx_array_build.specs.Filled.{rows_lent}
use Rattle.vx_array_build.proofs.Filling.{at_row, filled_end, filled_push}
use Rattle.vx_array_build.proofs.filled.octets_of.Goals as goal

pub loop-i-preserved : goal.loop-i-preserved
loop-i-preserved c =
    filled_push bytes c.loop-i.spans c.in_ok-spans-in-Some.spans c.in-Some.bytes.now (rows_lent c.args.rows.now) c.loop-i.i c.loop-i.invariant c.in_ok-spans-in-Some.ensures
    (at_row c.args.rows.now c.loop-i.i c.index-rows-i.result (bytes c.in-Some.bytes.now) (omega arith) c.index-rows-i.is c.in-Some.ensures)

pub returns : goal.returns
returns c =
    let all : c.loop-i.i ≡ length c.args.rows.now = omega arith in
    filled_end (map bytes c.loop-i.spans) (map bytes (spans_in c.in_ok-finish.field-0)) (rows_lent c.args.rows.now) c.loop-i.i (length c.args.rows.now) c.loop-i.invariant (ap (map bytes) c.in_ok-finish.ensures) all
