use Rattle.std.proofs.Common.{◌≡◌, ◌∙◌, ◌++◌, ap, map, rules}
use Rattle.std.proofs.lemmas.List.{map-append}
use Rattle.vx_array.specs.Rows.{lanes_rows}
use Rattle.vx_array_build.specs.FloatBits.{float_row}
use Rattle.vx_array_build.proofs.floats_builder.FloatsBuilderRowsBuilder.push.Goals as goal

pub returns-in-Some-2 : goal.returns-in-Some-2
returns-in-Some-2 g c =
    let h = float_row g.T.FloatBits.format in
    let old = c.args.self.bits in
    let more = lanes_rows c.in-Some.more in
    let pushed : c.in-Some-2.bits ≡ old ++ more = search rules in
    let read : map h more ≡ lanes_rows c.args.lanes.now = search rules in
    ap (map h) pushed ∙ map-append h old more ∙ ap (λ l. map h old ++ l) read
