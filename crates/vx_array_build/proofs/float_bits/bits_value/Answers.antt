use Rattle.std.proofs.Common.{◌≡◌, ◌∙◌, ap, sym, pos, rules, to_z, of_z}
use Rattle.std.specs.Int.{w128}
use Rattle.vx_value.specs.declared.value.Value.{Int}
use Rattle.vx_value.specs.Types.{float}
use Rattle.vx_value.specs.Views.{value_of}
use Rattle.vx_array.proofs.Reading.{value_of-Float, value_of-Int}
use Rattle.vx_array_build.specs.FloatBits.{float_row}
use Rattle.vx_array_build.proofs.float_bits.bits_value.Goals as goal

pub returns-in-Some : goal.returns-in-Some
returns-in-Some c =
    let b = c.in-Some.bits in
    let same : to_z w128 (of_z w128 (pos b)) ≡ pos b = search rules in
    ap (λ z. float_row c.args.float_type (value_of (Int z))) same ∙ ap (float_row c.args.float_type) (value_of-Int (pos b)) ∙ ap float c.in-Some.ensures ∙ sym (ap value_of c.in-Float.is ∙ value_of-Float c.in-Float.float)
