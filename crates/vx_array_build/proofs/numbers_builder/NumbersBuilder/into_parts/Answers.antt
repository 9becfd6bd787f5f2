use Rattle.std.proofs.Common.{◌∙◌, ap, map}
use Rattle.std.proofs.lemmas.List.{length-map}
use Rattle.vx_value.specs.Types.{int}
use Rattle.vx_array.specs.Shown.{masked, shown}
use Rattle.vx_array_build.specs.Rowed.{flags}
use Rattle.vx_array_build.proofs.numbers_builder.NumbersBuilder.into_parts.Goals as goal

pub returns : goal.returns
returns g c =
    let number = g.T.Number.number in
    let xs = c.self.inside.numbers.items in
    let v = c.in_ok-validity.validity in
    let valid = c.self.inside.valid in
    let ds = map int (map number xs) in
    ap (λ l. shown v (map int (map number l))) c.in_ok-new.ensures ∙ c.in_ok-validity.ensures ds
    ∙ ap (λ n. masked (flags n valid) ds) (length-map (map number xs) int ∙ length-map xs number) ∙ c.self.view_is
