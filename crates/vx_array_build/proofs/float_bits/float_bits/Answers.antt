use Rattle.std.proofs.Common.{◌≡◌, ◌∙◌, ap, sym, true, rules}
use Rattle.vx_floats.specs.Floats.{canonical, is_canonical}
use Rattle.vx_array.specs.Kinds.{float_of}
use Rattle.vx_array_build.proofs.Reals.{own_bits}
use Rattle.vx_array_build.proofs.float_bits.float_bits.Goals as goal

pub returns-in-F32-F32 : goal.returns-in-F32-F32
returns-in-F32-F32 c =
    let told : is_canonical c.args.float ≡ true = search rules in
    ap (λ t. float_of t c.in-F32-F32.bits) c.in-F32-F32.is-0 ∙ ap canonical (sym c.in-F32-F32.is-1) ∙ own_bits c.args.float told

pub returns-in-F64-F64 : goal.returns-in-F64-F64
returns-in-F64-F64 c =
    let told : is_canonical c.args.float ≡ true = search rules in
    ap (λ t. float_of t c.in-F64-F64.bits) c.in-F64-F64.is-0 ∙ ap canonical (sym c.in-F64-F64.is-1) ∙ own_bits c.args.float told
