use Rattle.std.proofs.Common.{ℕ, length, map, rules}
use Rattle.std.proofs.lemmas.List.{length-map}
use Rattle.vx_dtype.specs.declared.float_type.FloatType.TheVariants.{F64}
use Rattle.vx_array.specs.Kinds.{float_of}
use Rattle.vx_array_loops.proofs.Filled.{filled_as}
use Rattle.vx_array_kernels.specs.Keys.{float_key}
use Rattle.vx_array_kernels.proofs.keys.keys_in_64.Goals as goal

pub returns : goal.returns
returns c =
    let bits = c.args.bits.now in
    let key : ℕ → ℕ = λ b. float_key (float_of F64 b) in
    filled_as 0 (length bits) (map key bits) _ c.tabulated.result (length-map bits key) c.tabulated.ensures.long c.tabulated.ensures.each (λ k x lt post. search rules)
