-- The order of floating-point numbers turned round.
use Rattle.std.proofs.Common.{◌≡◌, refl}
use Rattle.std.specs.Ordering.{ordering_reverse}
use Rattle.std.proofs.lemmas.Cmp.{nat_cmp_total}
use Rattle.vx_floats.specs.declared.float.Float.{Float}
use Rattle.vx_floats.specs.declared.float.Float.TheVariants.{F32, F64}
use Rattle.vx_floats.specs.Floats.{float_order, total_key}

pub float_order-turned : (x y : Float) → float_order x y ≡ ordering_reverse (float_order y x)
float_order-turned (F32 a) (F32 b) = nat_cmp_total.antisymm (total_key 0x8000_0000 a) (total_key 0x8000_0000 b)
float_order-turned (F64 a) (F64 b) = nat_cmp_total.antisymm (total_key 0x8000_0000_0000_0000 a) (total_key 0x8000_0000_0000_0000 b)
float_order-turned (F32 a) (F64 b) = refl
float_order-turned (F64 a) (F32 b) = refl
