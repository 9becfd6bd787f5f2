use Rattle.std.proofs.Common.{ap, ◌∙◌, map}
use Rattle.vx_value.specs.Types.{int, shape_of}
use Rattle.vx_value.specs.Views.{type_of}
use Rattle.vx_array.specs.declared.lanes.Lanes as Kind
use Rattle.vx_array_build.proofs.Made.{made_fit, range_seen}
use Rattle.vx_array_build.proofs.Typed.{lane_typed, numbers_are}
use Rattle.vx_array_build.proofs.numbers.in_lanes.Goals as goal

pub new-requires-2 : goal.new-requires-2
new-requires-2 g c =
    let v = c.args.validity in
    let xs = c.args.numbers.items in
    let zs = map g.T.Number.number xs in
    let t = type_of c.args.dtype in
    made_fit c.with_nullability-dtype.result (Kind.Numbers c.numbers-numbers.result c.or_all.result) (shape_of t) v (map int zs)
    (lane_typed c.with_nullability-dtype.result t c.nullability.result v c.with_nullability-dtype.ensures c.nullability.ensures)
    (numbers_are c.numbers-numbers.result zs c.or_all.result v (c.numbers-numbers.ensures ∙ ap (map g.T.Number.number) c.in_ok-new.ensures) c.or_all.ensures)
    (range_seen g.T.Number.number g.T.Number.fits (shape_of t) g.T.Native.kind xs c.as_slice.result.now c.requires c.as_slice.ensures.value g.met.T.Native.same_range c.see_range.ensures)
