use Rattle.std.proofs.Common.{◌≡◌, ◌∙◌, ◌-◌, ◌*◌, ◌/◌, ap, arith, length, drop, true, rules}
use Rattle.vx_array.specs.Rows.{lanes_each}
use Rattle.vx_array_kernels.proofs.Cases.{branch_put, lanes_long, length-case_rows, long_left, none_put}
use Rattle.vx_array_kernels.proofs.choices.case_in.Goals as goal

pub otherwise-requires-clause-long : goal.otherwise-requires-clause-long
otherwise-requires-clause-long g c = long_left c.args.count (2 * (length c.args.below.now / 2)) c.args.below.now c.requires

pub loop-j-init : goal.loop-j-init
loop-j-init g c = none_put c.args.count (length c.args.below.now / 2) c.args.below.now (g.B.Blend.rows c.in-Some.rows) (rw c.in-Some.is at c.in_ok-rows.ensures)

pub put_where-requires-clause-rows : goal.put_where-requires-clause-rows
put_where-requires-clause-rows g c = ap length c.loop-j.invariant ∙ length-case_rows c.args.count (drop (2 * (length c.args.below.now / 2 - c.loop-j.j)) (lanes_each c.args.below.now))

pub put_where-requires-clause-condition : goal.put_where-requires-clause-condition
put_where-requires-clause-condition g c = lanes_long c.args.count c.args.below.now _ c.index-below-i.result c.requires (omega arith) c.index-below-i.is

pub put_where-requires-clause-values : goal.put_where-requires-clause-values
put_where-requires-clause-values g c = lanes_long c.args.count c.args.below.now _ c.index-below-i-in-loop-j.result c.requires (omega arith) c.index-below-i-in-loop-j.is

pub loop-j-preserved : goal.loop-j-preserved
loop-j-preserved g c =
    let ls = c.args.below.now in
    let condition = c.index-below-i.result in
    let values = c.index-below-i-in-loop-j.result in
    let old = g.B.Blend.rows c.loop-j.rows in
    let new = g.B.Blend.rows c.put_where.new.rows in
    let done : c.in_ok-put_where.field-0 ≡ true = search rules in
    branch_put c.args.count ls condition values (length ls / 2) c.loop-j.j old new (omega arith) (omega arith) c.index-below-i.is c.index-below-i-in-loop-j.is c.loop-j.invariant (c.in_ok-put_where.ensures done)
