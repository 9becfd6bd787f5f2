use Rattle.std.proofs.Common.{◌≡◌, ◌∙◌, ap, arith, false, get_or, length, min, sym}
use Rattle.std.proofs.lemmas.List.{get_or-replicate, get_or-take, length-replicate, length-take}
use Rattle.vx_array.specs.Shown as shown
use Rattle.vx_array.specs.Shown.{shown_count}
use Rattle.vx_data_buffers.proofs.ByteBits.{valid_from}
use Rattle.vx_data_buffers.proofs.packed.validity_bytes.Goals as goal

pub returns-in_ok-zeros-in-Nothing : goal.returns-in_ok-zeros-in-Nothing
returns-in_ok-zeros-in-Nothing c =
    let rows = c.args.rows in
    let zeros = c.in_ok-zeros-in-Nothing.ensures in
    valid_from c.packed-in-Nothing.result c.in_ok-zeros-in-Nothing.field-0 c.args.validity.now rows c.packed-in-Nothing.ensures (ap length zeros ∙ length-replicate rows false)
    (λ i h. ap (λ bits. get_or bits i false) zeros ∙ get_or-replicate rows i false false (omega (arith, h, ap length zeros, length-replicate rows false)) ∙ ap (λ v. shown.is_valid v i) (sym c.in-Nothing.is))

pub returns-in_ok-first-in-Rows : goal.returns-in_ok-first-in-Rows
returns-in_ok-first-in-Rows c =
    let rows = c.args.rows in
    let bits = c.in-Rows.bits in
    let first = c.in_ok-first-in-Rows.ensures in
    let most : min (length bits) rows ≡ rows = ap (λ v. shown_count v rows) (sym c.in-Rows.is) ∙ c.requires in
    let long : length c.in_ok-first-in-Rows.field-0 ≡ rows = ap length first ∙ length-take rows bits ∙ omega (arith, most) in
    valid_from c.packed-in-Rows-2.result c.in_ok-first-in-Rows.field-0 c.args.validity.now rows c.packed-in-Rows-2.ensures long
    (λ i h. ap (λ bs. get_or bs i false) first ∙ get_or-take rows bits i false (omega (arith, h, long)) ∙ ap (λ v. shown.is_valid v i) (sym c.in-Rows.is))
