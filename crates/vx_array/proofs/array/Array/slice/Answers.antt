use Rattle.std.proofs.Common.{◌≡◌, ap, ◌∙◌, rules}
use Rattle.vx_value.specs.Columns.{first_misfit}
use Rattle.vx_value.specs.Views.{type_of}
use Rattle.vx_array.specs.Rows.{lanes_rows}
use Rattle.vx_array.proofs.Fitting.{part_fits}
use Rattle.vx_array.proofs.array.Array.slice.Goals as goal

pub invariant_of-result : goal.invariant_of-result
invariant_of-result c =
    let t = type_of c.self.inside.dtype in
    let same : type_of c.in_ok-dtype.dtype ≡ t = search rules in
    ap (λ u. first_misfit u (lanes_rows c.in_ok-lanes.lanes)) same ∙ ap (first_misfit t) c.in_ok-lanes.ensures ∙ part_fits t c.args.from c.args.len (lanes_rows c.self.inside.lanes) c.self.invariant
