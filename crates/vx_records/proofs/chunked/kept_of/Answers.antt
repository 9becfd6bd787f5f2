-- The verdict says which lines are made.
use Rattle.std.proofs.Common.{◌≡◌, length, refl, ap, subst, sym, ◌∙◌, arith}
use Rattle.std.proofs.lemmas.List.{length-map}
use Rattle.vx_value.specs.Columns.{Batch}
use Rattle.vx_value.specs.Views.{value_of}
use Rattle.vx_tree.specs.Meaning.{mean}
use Rattle.vx_tree.specs.Trees.{unbound}
use Rattle.vx_tree.specs.Views.{bound_of}
use Rattle.vx_prune_tree.specs.Verdicts.{IsTrueVerdict}
use Rattle.vx_records.specs.Chunks.{each_line, texts_in}
use Rattle.vx_records.specs.Records.{rows}
use Rattle.vx_records.proofs.Keeping.{count_of, kept_read}
use Rattle.vx_records.proofs.Meaning.{meanings_of}
use Rattle.vx_records.proofs.Verdicts.{each_kept, none_kept}
use Rattle.vx_records.proofs.chunked.kept_of.Goals as goal

pub lines_of-requires : goal.lines_of-requires
lines_of-requires c =
    let e = unbound (bound_of c.args.tree.now) in
    let values : length c.rows.result.now ≡ length c.in_ok-values-in-Unknown.values.rows = sym (length-map c.rows.result.now value_of) ∙ ap length c.rows.ensures.rows in
    let rows : length c.in_ok-values-in-Unknown.values.rows ≡ length c.deref.result.now.rows = ap length c.in_ok-values-in-Unknown.ensures.ok ∙ length-map c.deref.result.now.rows (mean e c.deref.result.now.type) in
    let same : length c.deref.result.now.rows ≡ length c.args.batch.now.rows.value.rows = ap (λ (b : Batch). length b.rows) c.deref.ensures in
    let texts : length c.as_slice-texts.result.now ≡ length c.args.batch.now.texts.items = ap length c.as_slice-texts.ensures.value in
    let many : length c.args.batch.now.texts.items ≡ length c.args.batch.now.rows.value.rows = c.requires.as_many in
    omega (arith, values, rows, same, texts, many)

pub returns-in-NoRow-clause-kept : goal.returns-in-NoRow-clause-kept
returns-in-NoRow-clause-kept c rs has judged =
    let b = bound_of c.args.tree.now in
    let s = c.args.batch.now.rows.value.type in
    c.new.ensures.items ∙ sym (none_kept (unbound b) s rs (subst (IsTrueVerdict b s (rows rs)) c.in-NoRow.is judged))

pub returns-in_ok-all_lines_of-in-EveryRow-clause-kept : goal.returns-in_ok-all_lines_of-in-EveryRow-clause-kept
returns-in_ok-all_lines_of-in-EveryRow-clause-kept c rs (texts, over) judged =
    let b = bound_of c.args.tree.now in
    let s = c.args.batch.now.rows.value.type in
    c.in_ok-all_lines_of-in-EveryRow.ensures ∙ ap each_line (ap texts_in c.as_slice-texts.ensures.value ∙ texts)
    ∙ sym (each_kept (unbound b) s rs (subst (IsTrueVerdict b s (rows rs)) c.in-EveryRow.is judged))

pub returns-in_ok-lines_of-in-Unknown-clause-kept : goal.returns-in_ok-lines_of-in-Unknown-clause-kept
returns-in_ok-lines_of-in-Unknown-clause-kept c rs (texts, over) judged =
    let e = unbound (bound_of c.args.tree.now) in
    let s = c.args.batch.now.rows.value.type in
    let read = ap texts_in c.as_slice-texts.ensures.value ∙ texts in
    let meant = meanings_of e s s rs c.deref.result.now _ _ (c.rows.ensures.rows ∙ c.in_ok-values-in-Unknown.ensures.ok) (c.deref.ensures ∙ over) refl refl in
    kept_read e s rs _ _ _ _ c.in_ok-lines_of-in-Unknown.ensures read meant (count_of rs _ read)
