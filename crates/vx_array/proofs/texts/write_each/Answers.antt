use Rattle.std.proofs.Common.{[], arith, refl, rules, get_or}
use Rattle.std.proofs.Output.{has_written_append, has_written_of_eq, writes_in_calls_nil}
use Rattle.vx_value.specs.Types.{null}
use Rattle.vx_value.specs.Views.{type_of}
use Rattle.vx_array.specs.Rows.{lanes_rows}
use Rattle.vx_array.proofs.Written.{items_next, items_all, is_there}
use Rattle.vx_array.proofs.texts.write_each.Goals as goal

pub loop-i-init : goal.loop-i-init
loop-i-init g c = λ plain. ([], record { wrote = writes_in_calls_nil _ _; plain = plain }, refl)

pub loop-i-preserved : goal.loop-i-preserved
loop-i-preserved g c = λ plain.
    let (done, wrote, left) = c.loop-i.invariant plain in
    let rows = lanes_rows c.args.lanes.now in
    let low = c.len-i-end.ensures in
    let comma = c.write_str.ensures.writes wrote.plain (search rules) in
    let value = c.in_ok-write_row.ensures comma.plain refl in (
      _,
      has_written_append _ _ _ _ _ _ (has_written_append _ _ _ _ _ _ wrote comma) value,
      items_next rows (type_of c.args.t.now) c.loop-i.i (get_or rows c.loop-i.i null) done _ _ (omega arith) (is_there rows c.loop-i.i (omega arith)) c.separator.ensures left,
    )

pub returns : goal.returns
returns g c = λ plain ok.
    let (done, wrote, left) = c.loop-i.invariant plain in
    let low = c.len-i-end.ensures in
    has_written_of_eq _ _ _ _ _ (items_all (lanes_rows c.args.lanes.now) (type_of c.args.t.now) c.loop-i.i done _ (omega arith) left) wrote
