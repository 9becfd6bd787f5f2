-- The next records are read, and those of them that are kept are written.
use Rattle.std.proofs.Common.{◌≡◌, Err, [], subst, ap, ◌∙◌, rules}
use Rattle.std.proofs.KnownBytes.{Appends-nil}
use Rattle.std.specs.Io.KnownBytes.{Appends}
use Rattle.vx_tree.specs.Trees.{unbound}
use Rattle.vx_tree.specs.Views.{bound_of}
use Rattle.vx_records.specs.Chunks.{texts_in}
use Rattle.vx_records.specs.Outcomes.{Breaks}
use Rattle.vx_records.specs.declared.answers.Answers.{Answers}
use Rattle.vx_records.proofs.Going.{reads_none}
use Rattle.vx_records.proofs.Keeping.{count_of, kept_read}
use Rattle.vx_records.proofs.Stopping.{err_map, next_reads, ok_map, on_failed, step_next, stops_broken, stops_first, stops_next}
use Rattle.vx_records.proofs.filtered.FilteredPortionRecordsError.go.Goals as goal

pub returns-in-Err-clause-stopped : goal.returns-in-Err-clause-stopped
returns-in-Err-clause-stopped g c = stops_first g.R.RecordReader.leaves _ _ c.in-Err.e _ _ (Appends-nil (g.W.Write.contents c.args.out.now)) c.in-Err.ensures.fault

pub returns-in-Err-lines_of-clause-stopped : goal.returns-in-Err-lines_of-clause-stopped
returns-in-Err-lines_of-clause-stopped g c = (c.args.records.now, [], reads_none (g.R.RecordReader.leaves c.args.records.now), Appends-nil (g.W.Write.contents c.args.out.now))

pub returns-in_err-write_text-clause-stopped : goal.returns-in_err-write_text-clause-stopped
returns-in_err-write_text-clause-stopped g c =
    let (rs, next, (texts, over), meant) = c.in-Ok.ensures.read in
    let (mid, reads) = next_reads g.R.RecordReader.leaves c.args.count c.args.records.now _ _ rs next in
    let read = ap texts_in (c.as_slice.ensures.value ∙ ap (λ (a : Answers). a.batch.texts.items) c.deref.ensures) ∙ texts in
    let values = c.rows.ensures.rows ∙ ap (λ (a : Answers). a.values.rows) c.deref-2.ensures ∙ meant in
    let kept = kept_read (unbound (bound_of c.args.self.now.tree.now)) (g.R.RecordReader.scope c.args.records.now) rs _ _ _ _ (c.as_slice-2.ensures.value ∙ c.in-Ok-lines_of.ensures) read values (count_of rs _ read) in
    let (is, broke) = c.in_err-write_text.ensures.part in
    let failed : c.from_residual.result ≡ Err c.in_err-write_text.field-0.0 = search rules in
    on_failed _ c.in_err-write_text.field-0.0 _ failed (stops_broken g.R.RecordReader.leaves _ c.args.records.now mid _ rs _ _ reads (subst (Breaks (g.W.Write.contents c.args.out.now) (g.W.Write.contents c.write_text.new.out)) kept broke) is)

pub returns-clause-step : goal.returns-clause-step
returns-clause-step g c =
    let (rs, next, (texts, over), meant) = c.in-Ok.ensures.read in
    let read = ap texts_in (c.as_slice.ensures.value ∙ ap (λ (a : Answers). a.batch.texts.items) c.deref.ensures) ∙ texts in
    let values = c.rows.ensures.rows ∙ ap (λ (a : Answers). a.values.rows) c.deref-2.ensures ∙ meant in
    let kept = kept_read (unbound (bound_of c.args.self.now.tree.now)) (g.R.RecordReader.scope c.args.records.now) rs _ _ _ _ (c.as_slice-2.ensures.value ∙ c.in-Ok-lines_of.ensures) read values (count_of rs _ read) in
    ok_map c.ended.result _ _ (λ last is. step_next g.R.RecordReader.leaves c.args.count c.args.records.now _ _ last _ rs _ next is (count_of rs _ texts) (subst (Appends (g.W.Write.contents c.args.out.now) (g.W.Write.contents c.write_text.new.out)) kept c.in_ok-write_text.ensures.whole)) c.ended.ensures.ok

pub returns-clause-stopped : goal.returns-clause-stopped
returns-clause-stopped g c =
    let (rs, next, (texts, over), meant) = c.in-Ok.ensures.read in
    let read = ap texts_in (c.as_slice.ensures.value ∙ ap (λ (a : Answers). a.batch.texts.items) c.deref.ensures) ∙ texts in
    let values = c.rows.ensures.rows ∙ ap (λ (a : Answers). a.values.rows) c.deref-2.ensures ∙ meant in
    let kept = kept_read (unbound (bound_of c.args.self.now.tree.now)) (g.R.RecordReader.scope c.args.records.now) rs _ _ _ _ (c.as_slice-2.ensures.value ∙ c.in-Ok-lines_of.ensures) read values (count_of rs _ read) in
    err_map c.ended.result _ _ (λ e fine. stops_next g.R.RecordReader.leaves _ c.args.count c.args.records.now _ _ e rs _ _ next (subst (Appends (g.W.Write.contents c.args.out.now) (g.W.Write.contents c.write_text.new.out)) kept c.in_ok-write_text.ensures.whole) fine) c.ended.ensures.err
