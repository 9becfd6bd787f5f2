use Rattle.std.proofs.Common.{◌∙◌, ap, map}
use Rattle.vx_array_build.specs.FloatBits.{float_row}
use Rattle.vx_array_build.proofs.Reals.{rows_over}
use Rattle.vx_array_build.proofs.floats_builder.FloatsBuilderRowsBuilder.finish.Goals as goal

pub returns : goal.returns
returns g c =
    let f = g.T.FloatBits.format in
    rows_over f c.floats.result c.in_ok-bits.validity (map g.T.Number.number c.in_ok-bits.bits) c.floats.ensures.format c.floats.ensures.bits ∙ ap (map (float_row f)) c.in_ok-bits.ensures
