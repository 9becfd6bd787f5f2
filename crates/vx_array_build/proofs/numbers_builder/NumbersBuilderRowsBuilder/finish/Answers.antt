use Rattle.std.proofs.Common.{◌∙◌, ap, map}
use Rattle.vx_value.specs.Types.{int}
use Rattle.vx_array.specs.Shown.{shown}
use Rattle.vx_array.proofs.Held.{rows-Numbers}
use Rattle.vx_array_build.proofs.numbers_builder.NumbersBuilderRowsBuilder.finish.Goals as goal

pub returns : goal.returns
returns g c =
    let v = c.in_ok-numbers.validity in
    rows-Numbers c.numbers.result v ∙ ap (λ l. shown v (map int l)) c.numbers.ensures ∙ c.in_ok-numbers.ensures
