use Rattle.std.proofs.Common.{◌≡◌, ap, sym, ◌∙◌, rules}
use Rattle.vx_value.specs.Columns.{first_misfit}
use Rattle.vx_value.specs.Views.{type_of}
use Rattle.vx_array.specs.Rows.{lanes_rows}
use Rattle.vx_array_build.proofs.Concatenated.{parts_fit}
use Rattle.vx_array_build.proofs.parts.concat.Goals as goal

pub new-requires : goal.new-requires
new-requires c =
    let t = type_of c.args.dtype.now in
    let typed : type_of c.in_ok-dtype.dtype ≡ t = search rules in
    ap (λ u. first_misfit u (lanes_rows c.in_ok-lanes.lanes)) typed ∙ ap (first_misfit t) c.in_ok-lanes.ensures.rows ∙ parts_fit t c.args.parts.now c.in_ok-lanes.ensures.fit (sym c.if-not-all_of_type.ensures)
