use Rattle.std.proofs.Common.{◌≡◌, ap, ◌∙◌, [], ◌∷◌, arith, List, length, map}
use Rattle.std.proofs.lemmas.List.{map-append}
use Rattle.vx_value.specs.Types.{int}
use Rattle.vx_array_build.specs.Filled.{rows_lent}
use Rattle.vx_array_build.specs.FloatBits.{float_row}
use Rattle.vx_array_build.proofs.Filling.{at_row, filled_end, filled_push}
use Rattle.vx_array_build.proofs.filled.bits_of.Goals as goal

pub loop-i-preserved : goal.loop-i-preserved
loop-i-preserved g c =
    let number = g.T.Number.number in
    let h = float_row g.T.FloatBits.format in
    let x = c.in-Some.number in
    let old = c.loop-i.bits.items in
    filled_push h (map int (map number old)) (map int (map number c.push.new.self.items)) (int (number x)) (rows_lent c.args.rows.now) c.loop-i.i c.loop-i.invariant
    (ap (λ l. map int (map number l)) c.in_ok-push-in-Some.ensures.items ∙ ap (map int) (map-append number old (x ∷ [])) ∙ map-append int (map number old) (number x ∷ []))
    (at_row c.args.rows.now c.loop-i.i c.index-rows-i.result (h (int (number x))) (omega arith) c.index-rows-i.is c.in-Some.ensures)

pub returns : goal.returns
returns g c =
    let f = λ (ns : List g.row.T.Denot). map (float_row g.T.FloatBits.format) (map int (map g.T.Number.number ns)) in
    let all : c.loop-i.i ≡ length c.args.rows.now = omega arith in
    filled_end (f c.loop-i.bits.items) (f c.in_ok-new.field-0) (rows_lent c.args.rows.now) c.loop-i.i (length c.args.rows.now) c.loop-i.invariant (ap f c.in_ok-new.ensures) all
