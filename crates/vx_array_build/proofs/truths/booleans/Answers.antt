use Rattle.std.proofs.Common.{map}
use Rattle.vx_dtype.specs.declared.dtype.DType.TheVariants as DType
use Rattle.vx_value.specs.Types.{atomic, bool, truth}
use Rattle.vx_array.specs.declared.lanes.Lanes as Kind
use Rattle.vx_array_build.proofs.Made.{made_fit, truths_fit}
use Rattle.vx_array_build.proofs.Typed.{bool_typed, bools_are}
use Rattle.vx_array_build.proofs.truths.booleans.Goals as goal

pub new-requires-2 : goal.new-requires-2
new-requires-2 c =
    let v = c.args.validity in
    made_fit (DType.Bool c.nullability.result) (Kind.Bools c.in_ok-bits.bits c.or_all.result) (atomic truth) v (map bool c.args.truths) (bool_typed c.nullability.result v c.nullability.ensures)
    (bools_are c.in_ok-bits.bits c.args.truths c.or_all.result v c.in_ok-bits.ensures c.or_all.ensures) (truths_fit c.args.truths)
