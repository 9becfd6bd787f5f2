use Rattle.std.proofs.Common.{◌≡◌, IfOk, ap, sym, subst, ◌∙◌, map, take}
use Rattle.std.proofs.Math.Seq.{take-length}
use Rattle.vx_value.specs.Types.{bool}
use Rattle.vx_fn.specs.Values.{is_true}
use Rattle.vx_array.specs.Shown.{shown}
use Rattle.vx_array_scan.proofs.TrueRows.{none_valid, true_bools}
use Rattle.vx_array_scan.proofs.truths.valid_truths.Goals as goal

pub returns-in-All : goal.returns-in-All
returns-in-All c =
    let bits = c.args.truths.now in
    subst (λ want. IfOk c.first.result (λ rows. rows ≡ want)) (ap (λ n. take n bits) c.len.ensures ∙ take-length bits ∙ sym (true_bools bits) ∙ ap (λ v. map is_true (shown v (map bool bits))) (sym c.in-All.is)) c.first.ensures

pub returns-in-Nothing : goal.returns-in-Nothing
returns-in-Nothing c =
    let bits = c.args.truths.now in
    subst (λ want. IfOk c.zeros.result (λ rows. rows ≡ want)) (none_valid bits c.len-in-Nothing.result c.len-in-Nothing.ensures ∙ ap (λ v. map is_true (shown v (map bool bits))) (sym c.in-Nothing.is)) c.zeros.ensures

pub returns-in-Rows : goal.returns-in-Rows
returns-in-Rows c =
    let bits = c.args.truths.now in
    subst (λ want. IfOk c.valid_and_true.result (λ rows. rows ≡ want)) (ap (λ v. map is_true (shown v (map bool bits))) (sym c.in-Rows.is)) c.valid_and_true.ensures
