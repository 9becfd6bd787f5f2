use Rattle.std.proofs.Common.{◌≡◌, ◌∙◌, ap, sym, subst, rules}
use Rattle.vx_value.specs.Columns.{first_misfit}
use Rattle.vx_value.specs.Fits.{IsBatch}
use Rattle.vx_value.specs.Views.{type_of}
use Rattle.vx_value.proofs.Misfits.{no_misfit}
use Rattle.vx_array.specs.Rows.{lanes_each, lanes_rows}
use Rattle.vx_array_kernels.specs.Choices.{case_rows}
use Rattle.vx_array_merges.proofs.chosen.chosen.Goals as goal

pub new-requires : goal.new-requires
new-requires c =
    let t = type_of c.args.dtype.now in
    let rows = lanes_rows c.in-Some.lanes in
    let is : rows ≡ case_rows c.args.count (lanes_each c.args.below.now) = search rules in
    let same : type_of c.in_ok-clone-in-Some.field-0 ≡ t = search rules in
    ap (λ u. first_misfit u rows) same ∙ (no_misfit t rows).1 (subst (IsBatch t) (sym is) c.requires.fit)
