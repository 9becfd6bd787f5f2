use Rattle.std.proofs.Common.{◌≡◌, ◌∙◌, arith, length}
use Rattle.vx_array_build.proofs.Filling.{all_valid, valid_end, valid_push}
use Rattle.vx_array_build.proofs.filled.validity_of.Goals as goal

pub loop-i-preserved : goal.loop-i-preserved
loop-i-preserved c = valid_push c.args.rows.now c.loop-i.valid.items c.push.new.self.items c.loop-i.i c.index-rows-i.result c.is_null.result c.loop-i.invariant.long c.loop-i.invariant.same c.in_ok-push.ensures.items (omega arith) c.index-rows-i.is c.is_null.ensures

pub returns-then-none_is_null : goal.returns-then-none_is_null
returns-then-none_is_null c = all_valid c.args.rows.now (c.none_is_null.ensures c.if-none_is_null.true)

pub returns : goal.returns
returns c =
    let all : c.loop-i.i ≡ length c.args.rows.now = omega arith in
    valid_end c.args.rows.now c.loop-i.valid.items c.in_ok-new.field-0 c.loop-i.i c.loop-i.invariant.long c.loop-i.invariant.same (c.in_ok-new.ensures ∙ c.in_ok-bits.ensures ∙ c.as_slice.ensures.value) all
