use Rattle.std.proofs.Common.{Ok, ◌∙◌, ap, map, pos, subst}
use Rattle.std.specs.Prelude.{to_bits}
use Rattle.std.specs.Float.{binary64}
use Rattle.vx_dtype.specs.Returns.{ReturnsOrOom}
use Rattle.vx_dtype.specs.declared.float_type.FloatType.TheVariants.{F64}
use Rattle.vx_value.specs.Types.{atomic, floating, int}
use Rattle.vx_array_build.specs.Built.{column_by}
use Rattle.vx_array_build.specs.FloatBits.{float_row}
use Rattle.vx_array_build.proofs.Reals.{of_natives}
use Rattle.vx_array_build.proofs.native_floats.F64NativeFloat.array.Goals as goal

pub returns : goal.returns
returns c =
    subst (λ rows. ReturnsOrOom (λ a. a) c.floats_by_bits.result (Ok (column_by (atomic (floating F64)) c.args.validity rows)))
    (ap (λ l. map (float_row F64) (map int (map (λ b. pos b) l))) c.in_ok-bits_in_64.ensures ∙ of_natives F64 (to_bits binary64) c.args.numbers.now) c.floats_by_bits.ensures
