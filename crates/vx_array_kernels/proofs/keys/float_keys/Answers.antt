use Rattle.std.proofs.Common.{◌∙◌, ap, map, pos, sym}
use Rattle.vx_dtype.specs.declared.float_type.FloatType.TheVariants.{F32, F64}
use Rattle.vx_array.specs.Kinds.{float_of, floats_in}
use Rattle.vx_array.proofs.Mapped.{map_map}
use Rattle.vx_array_kernels.specs.Keys.{float_key}
use Rattle.vx_array_kernels.proofs.keys.float_keys.Goals as goal

pub returns-in_ok-new-in-F32-F32-clause-keys : goal.returns-in_ok-new-in-F32-F32-clause-keys
returns-in_ok-new-in-F32-F32-clause-keys c =
    let m = c.in-F32-F32 in
    ap (map (λ n. pos n)) (c.in_ok-new-in-F32-F32.ensures ∙ c.in_ok-keys-in-F32-F32.ensures ∙ ap (map (λ b. float_key (float_of F32 b))) c.as_slice.ensures) ∙ map_map (λ n. pos n) (λ b. float_key (float_of F32 b)) m.bits
    ∙ sym (ap (λ fs. map (λ x. pos (float_key x)) (floats_in fs)) m.is-1 ∙ map_map (λ x. pos (float_key x)) (float_of F32) m.bits)

pub returns-in_ok-new-in-F64-F64-clause-keys : goal.returns-in_ok-new-in-F64-F64-clause-keys
returns-in_ok-new-in-F64-F64-clause-keys c =
    let m = c.in-F64-F64 in
    ap (map (λ n. pos n)) (c.in_ok-new-in-F64-F64.ensures ∙ c.in_ok-keys-in-F64-F64.ensures ∙ ap (map (λ b. float_key (float_of F64 b))) c.as_slice-in-F64-F64.ensures) ∙ map_map (λ n. pos n) (λ b. float_key (float_of F64 b)) m.bits
    ∙ sym (ap (λ fs. map (λ x. pos (float_key x)) (floats_in fs)) m.is-1 ∙ map_map (λ x. pos (float_key x)) (float_of F64) m.bits)
