use Rattle.std.proofs.Common.{◌≡◌, ap, ◌∙◌, rules}
use Rattle.std.proofs.Math.ListN.{replicate}
use Rattle.vx_value.specs.Columns.{first_misfit}
use Rattle.vx_value.specs.Views.{type_of, value_of}
use Rattle.vx_array.specs.declared.lanes.Lanes as Kind
use Rattle.vx_array.specs.Rows.{lanes_rows}
use Rattle.vx_array.proofs.Held.{rows-Same}
use Rattle.vx_array_build.proofs.Made.{same_fit}
use Rattle.vx_array_build.proofs.constants.constant.Goals as goal

pub new-requires-2 : goal.new-requires-2
new-requires-2 c =
    let s = c.args.scalar.now in
    let typed : type_of c.in_ok-dtype.dtype ≡ s.type = search rules in
    let same : value_of c.in_ok-value.value.value ≡ s.value = search rules in
    ap (λ u. first_misfit u (lanes_rows (Kind.Same c.in_ok-value.value c.args.rows))) typed ∙ ap (first_misfit s.type) (rows-Same c.in_ok-value.value c.args.rows ∙ ap (replicate c.args.rows) same) ∙ same_fit s.type s.value c.args.rows c.value.ensures.fits
