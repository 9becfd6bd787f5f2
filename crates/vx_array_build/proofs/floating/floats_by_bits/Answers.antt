use Rattle.std.proofs.Common.{Ok, ◌∙◌, ap, map, sym}
use Rattle.vx_dtype.specs.declared.dtype.DType.TheVariants as DType
use Rattle.vx_value.specs.Types.{atomic, floating, int}
use Rattle.vx_value.specs.Views.{type_of}
use Rattle.vx_array.specs.declared.lanes.Lanes as Kind
use Rattle.vx_array.specs.Kinds.{bits_in}
use Rattle.vx_array_build.specs.FloatBits.{float_row}
use Rattle.vx_array_build.proofs.Made.{made_fit, made_is}
use Rattle.vx_array_build.proofs.Reals.{float_typed, floats_are, floats_fit}
use Rattle.vx_array_build.proofs.floating.floats_by_bits.Goals as goal

pub new-requires-2 : goal.new-requires-2
new-requires-2 g c =
    let f = g.T.FloatBits.format in
    let v = c.args.validity in
    let fs = c.floats-floats.result in
    let zs = map g.T.Number.number c.args.bits.items in
    let are = c.floats-floats.ensures.bits ∙ ap (map g.T.Number.number) c.in_ok-new.ensures in
    let typed = ap (λ t. type_of (DType.Float t c.nullability.result)) c.float_type.ensures ∙ float_typed f c.nullability.result v c.nullability.ensures in
    made_fit (DType.Float c.float_type.result c.nullability.result) (Kind.Floats fs c.or_all.result) (atomic (floating f)) v (map (float_row f) (map int zs)) typed (floats_are f fs zs c.or_all.result v c.floats-floats.ensures.format are c.or_all.ensures) (floats_fit f (bits_in fs) zs are)

pub returns : goal.returns
returns g c =
    let f = g.T.FloatBits.format in
    let v = c.args.validity in
    let fs = c.floats-floats.result in
    let zs = map g.T.Number.number c.args.bits.items in
    let are = c.floats-floats.ensures.bits ∙ ap (map g.T.Number.number) c.in_ok-new.ensures in
    let typed = ap (λ t. type_of (DType.Float t c.nullability.result)) c.float_type.ensures ∙ float_typed f c.nullability.result v c.nullability.ensures in
    ap Ok (made_is (DType.Float c.float_type.result c.nullability.result) (Kind.Floats fs c.or_all.result) (atomic (floating f)) v (map (float_row f) (map int zs)) typed (floats_are f fs zs c.or_all.result v c.floats-floats.ensures.format are c.or_all.ensures) ∙ sym c.new-2.ensures)
