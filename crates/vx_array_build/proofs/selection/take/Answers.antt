use Rattle.std.proofs.Common.{ap, ◌∙◌}
use Rattle.vx_value.specs.Columns.{first_misfit}
use Rattle.vx_array.specs.Rows.{lanes_rows}
use Rattle.vx_array_build.specs.Taken.{rows_at}
use Rattle.vx_array_build.proofs.Taking.{taken_fit}
use Rattle.vx_array_build.proofs.selection.take.Goals as goal

pub new-requires : goal.new-requires
new-requires c =
    let t = c.args.array.now.type in
    let indices = c.args.indices.now in
    ap (λ u. first_misfit u (lanes_rows c.in_ok-lanes.lanes)) (c.in_ok-dtype.ensures.cases ∙ c.dtype.ensures) ∙ ap (first_misfit t) (c.in_ok-lanes.ensures ∙ ap (λ l. rows_at l indices) c.lanes.ensures.rows)
    ∙ taken_fit t c.args.array.now.rows indices c.lanes.ensures.fit c.requires
