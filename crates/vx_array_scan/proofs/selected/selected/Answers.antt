use Rattle.std.proofs.Common.{◌≡◌, ◌∙◌, Err, ap, map, sym, subst, rules}
use Rattle.vx_dtype.specs.declared.error.VortexError.TheVariants.{OutOfMemory}
use Rattle.vx_fn.specs.Values.{is_true}
use Rattle.vx_tree.specs.Views.{bound_of}
use Rattle.vx_array_scan.specs.Selected.{IsSelection}
use Rattle.vx_array_scan.proofs.Selecting.{refused, selected_in, unselected}
use Rattle.vx_array_scan.proofs.selected.selected.Goals as goal

pub returns-in_err-values : goal.returns-in_err-values
returns-in_err-values c =
    let u = bound_of c.args.plan.now.tree in
    let batch = c.args.batch.now in
    let is : c.from_residual.result ≡ Err c.in_err-values.field-0.0 = search rules in
    subst (IsSelection u batch) (sym is) (refused u batch c.in_err-values.field-0.0 c.in_err-values.ensures)

pub returns-in_err-true_rows : goal.returns-in_err-true_rows
returns-in_err-true_rows c =
    let u = bound_of c.args.plan.now.tree in
    let batch = c.args.batch.now in
    let is : c.from_residual-in_err-true_rows.result ≡ Err OutOfMemory = search rules in
    subst (IsSelection u batch) (sym is) (unselected u batch)

pub returns : goal.returns
returns c = selected_in (bound_of c.args.plan.now.tree) c.args.batch.now c.in_ok-values.values c.in_ok-true_rows.field-0 c.in_ok-values.ensures (c.in_ok-true_rows.ensures ∙ ap (map is_true) c.lanes.ensures.rows)
