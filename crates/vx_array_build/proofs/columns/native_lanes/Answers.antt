use Rattle.std.proofs.Common.{ap, ◌∙◌, map}
use Rattle.vx_value.specs.Types.{int}
use Rattle.vx_array.specs.Shown.{shown}
use Rattle.vx_array.proofs.Held.{rows-Numbers}
use Rattle.vx_array_build.proofs.Filling.{lanes_filled}
use Rattle.vx_array_build.proofs.columns.native_lanes.Goals as goal

pub returns-in_ok-validity-in-Some : goal.returns-in_ok-validity-in-Some
returns-in_ok-validity-in-Some g c =
    let v = c.in_ok-validity-in-Some.validity in
    lanes_filled v (map int (map g.T.Number.number c.in-Some.part)) c.args.rows.now _ (rows-Numbers c.numbers.result v ∙ ap (λ l. shown v (map int l)) c.numbers.ensures) (rw c.in-Some.is at c.in_ok-part.ensures) c.in_ok-validity-in-Some.ensures
