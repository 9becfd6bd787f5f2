use Rattle.std.proofs.Common.{◌≡◌, ap, ◌∙◌, arith, length, map}
use Rattle.std.specs.Prelude.{if◌then◌else◌}
use Rattle.vx_array.specs.Kinds.{spans_in, text_row}
use Rattle.vx_value.specs.Types.{null, utf8}
use Rattle.vx_array_build.specs.Filled.{rows_lent}
use Rattle.vx_array_build.proofs.Filling.{at_row, filled_end, filled_push}
use Rattle.vx_array_build.proofs.filled.texts_of.Goals as goal

pub loop-i-preserved : goal.loop-i-preserved
loop-i-preserved c =
    filled_push text_row c.loop-i.spans c.in_ok-spans-in-Some.spans c.in-Some.text.now (rows_lent c.args.rows.now) c.loop-i.i c.loop-i.invariant c.in_ok-spans-in-Some.ensures.pushed
    (at_row c.args.rows.now c.loop-i.i c.index-rows-i.result (text_row c.in-Some.text.now) (omega arith) c.index-rows-i.is (λ there. ap (λ b. if b then utf8 c.in-Some.text.now else null) c.in_ok-spans-in-Some.ensures.text ∙ c.in-Some.ensures there))

pub returns : goal.returns
returns c =
    let all : c.loop-i.i ≡ length c.args.rows.now = omega arith in
    filled_end (map text_row c.loop-i.spans) (map text_row (spans_in c.in_ok-finish.field-0)) (rows_lent c.args.rows.now) c.loop-i.i (length c.args.rows.now) c.loop-i.invariant (ap (map text_row) c.in_ok-finish.ensures) all
