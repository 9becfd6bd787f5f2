use Rattle.std.proofs.Common.{◌≡◌, ap, ◌∙◌, arith, length, map}
use Rattle.vx_value.specs.Types.{bool}
use Rattle.vx_array_build.specs.Filled.{rows_lent}
use Rattle.vx_array_build.proofs.Filling.{at_row, filled_end, filled_push}
use Rattle.vx_array_build.proofs.filled.truths_of.Goals as goal

pub loop-i-preserved : goal.loop-i-preserved
loop-i-preserved c =
    filled_push bool c.loop-i.truths.items c.push.new.self.items c.in-Some.truth (rows_lent c.args.rows.now) c.loop-i.i c.loop-i.invariant c.in_ok-push-in-Some.ensures.items
    (at_row c.args.rows.now c.loop-i.i c.index-rows-i.result (bool c.in-Some.truth) (omega arith) c.index-rows-i.is c.in-Some.ensures)

pub returns : goal.returns
returns c =
    let all : c.loop-i.i ≡ length c.args.rows.now = omega arith in
    filled_end (map bool c.loop-i.truths.items) (map bool c.in_ok-new.field-0) (rows_lent c.args.rows.now) c.loop-i.i (length c.args.rows.now) c.loop-i.invariant (ap (map bool) (c.in_ok-new.ensures ∙ c.in_ok-bits.ensures ∙ c.as_slice.ensures.value)) all
