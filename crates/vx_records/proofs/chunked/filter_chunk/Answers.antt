-- The next records are read, and those of them that are kept are written, unless the tree faults on them.
use Rattle.std.proofs.Common.{◌≡◌, Err, [], subst, ap, sym, ◌∙◌, length, rules}
use Rattle.std.proofs.KnownBytes.{Appends-nil}
use Rattle.std.specs.Io.KnownBytes.{Appends}
use Rattle.vx_value.specs.Columns.{Batch}
use Rattle.vx_tree.specs.Faults.{HasNoFault}
use Rattle.vx_tree.specs.Views.{bound_of}
use Rattle.vx_prune_tree.specs.Verdicts.{IsTrueVerdict}
use Rattle.vx_records.specs.Chunks.{IsFaultThere}
use Rattle.vx_records.specs.Outcomes.{Breaks}
use Rattle.vx_records.specs.declared.error.RecordsError.TheVariants.{OutOfMemory}
use Rattle.vx_records.proofs.Going.{reads_none}
use Rattle.vx_records.proofs.Keeping.{count_of}
use Rattle.vx_records.proofs.Stopping.{fault_there, next_reads, on_failed, step_next, stops_broken, stops_first, stops_next}
use Rattle.vx_records.proofs.Tallying.{tally_read, within_chunk}
use Rattle.vx_records.proofs.Verdicts.{as_many, chunk_kept}
use Rattle.vx_records.proofs.chunked.filter_chunk.Goals as goal

pub returns-in_err-batch-clause-stopped : goal.returns-in_err-batch-clause-stopped
returns-in_err-batch-clause-stopped g c =
    let failed : c.from_residual.result ≡ Err OutOfMemory = search rules in
    on_failed _ OutOfMemory _ failed (c.args.records.now, [], reads_none (g.R.RecordReader.leaves c.args.records.now), λ never. Appends-nil (g.W.Write.contents c.args.out.now))

pub returns-in_err-verdict-clause-stopped : goal.returns-in_err-verdict-clause-stopped
returns-in_err-verdict-clause-stopped g c =
    let e = c.in_err-verdict.field-0.0 in
    let failed : c.from_residual-in_err-verdict.result ≡ Err e = search rules in
    on_failed _ e _ failed (stops_first g.R.RecordReader.leaves _ _ e _ _ (λ never. Appends-nil (g.W.Write.contents c.args.out.now)) (subst (IsFaultThere g.R.RecordReader.leaves (bound_of c.args.condition.now.tree.now) c.args.records.now) (sym c.in_err-verdict.ensures.err) tt))

pub returns-in_err-lines-clause-stopped : goal.returns-in_err-lines-clause-stopped
returns-in_err-lines-clause-stopped g c =
    let e = c.in_err-lines.field-0.0 in
    let (rs, next, (texts, over), fit, few) = c.in_ok-batch.ensures.read in
    let there = fault_there g.R.RecordReader.leaves (bound_of c.args.condition.now.tree.now) c.args.count c.args.records.now _ c.in_ok-batch.batch.stop e _ rs next (ap (λ (b : Batch). b.rows) over) c.in_err-lines.ensures.fault in
    let failed : c.from_residual-in_err-lines.result ≡ Err e = search rules in
    on_failed _ e _ failed (stops_first g.R.RecordReader.leaves _ _ e _ _ (λ never. Appends-nil (g.W.Write.contents c.args.out.now)) there)

pub kept_of-requires-clause-as_many : goal.kept_of-requires-clause-as_many
kept_of-requires-clause-as_many g c =
    let (rs, next, has, fit, few) = c.in_ok-batch.ensures.read in
    as_many _ c.in_ok-batch.batch rs has

pub returns-in_err-write_text-clause-stopped : goal.returns-in_err-write_text-clause-stopped
returns-in_err-write_text-clause-stopped g c =
    let e = c.in_err-write_text.field-0.0 in
    let held = g.W.Write.contents in
    let (rs, next, has, fit, few) = c.in_ok-batch.ensures.read in
    let (mid, reads) = next_reads g.R.RecordReader.leaves c.args.count c.args.records.now _ _ rs next in
    let (is, broke) = c.in_err-write_text.ensures.part in
    let b = bound_of c.args.condition.now.tree.now in
    let verdict = c.in_ok-verdict.verdict in
    let judged = subst (λ (c : Batch). HasNoFault b c.rows → IsTrueVerdict b c.type c.rows verdict) c.deref.ensures c.in_ok-verdict.ensures.holds in
    let kept = chunk_kept b (g.R.RecordReader.scope c.args.records.now) c.args.count c.in_ok-batch.batch rs verdict c.in_ok-lines.lines.items has few judged c.in_ok-lines.ensures.kept in
    let failed : c.from_residual-in_err-write_text.result ≡ Err e = search rules in
    on_failed _ e _ failed (stops_broken g.R.RecordReader.leaves _ c.args.records.now mid e rs _ _ reads
    (λ never. subst (Breaks (held c.args.out.now) (held c.write_text.new.out)) (c.as_slice.ensures.value ∙ kept never) broke) is)

pub returns-in_err-last-clause-stopped : goal.returns-in_err-last-clause-stopped
returns-in_err-last-clause-stopped g c =
    let e = c.in_err-last.field-0.0 in
    let held = g.W.Write.contents in
    let (rs, next, has, fit, few) = c.in_ok-batch.ensures.read in
    let b = bound_of c.args.condition.now.tree.now in
    let verdict = c.in_ok-verdict.verdict in
    let judged = subst (λ (c : Batch). HasNoFault b c.rows → IsTrueVerdict b c.type c.rows verdict) c.deref.ensures c.in_ok-verdict.ensures.holds in
    let kept = chunk_kept b (g.R.RecordReader.scope c.args.records.now) c.args.count c.in_ok-batch.batch rs verdict c.in_ok-lines.lines.items has few judged c.in_ok-lines.ensures.kept in
    let failed : c.from_residual-in_err-last.result ≡ Err e = search rules in
    on_failed _ e _ failed (stops_next g.R.RecordReader.leaves _ c.args.count c.args.records.now _ _ e rs _ _ next
    (λ never. subst (Appends (held c.args.out.now) (held c.write_text.new.out)) (c.as_slice.ensures.value ∙ kept never) c.in_ok-write_text.ensures.whole) c.in_err-last.ensures.err)

pub returns-clause-step : goal.returns-clause-step
returns-clause-step g c =
    let held = g.W.Write.contents in
    let (rs, next, has, fit, few) = c.in_ok-batch.ensures.read in
    let b = bound_of c.args.condition.now.tree.now in
    let s = g.R.RecordReader.scope c.args.records.now in
    let verdict = c.in_ok-verdict.verdict in
    let judged = subst (λ (c : Batch). HasNoFault b c.rows → IsTrueVerdict b c.type c.rows verdict) c.deref.ensures c.in_ok-verdict.ensures.holds in
    let kept = chunk_kept b s c.args.count c.in_ok-batch.batch rs verdict c.in_ok-lines.lines.items has few judged c.in_ok-lines.ensures.kept in
    let texts : length c.in_ok-batch.batch.texts.items ≡ length rs = count_of rs c.in_ok-batch.batch.texts.items has.0 in
    let many : c.len.result ≡ length rs = search (rules, c.len.ensures, c.in_ok-batch.batch.texts.ok, texts) in
    let again : c.len-2.result ≡ length rs = search (rules, c.len-2.ensures, c.in_ok-batch.batch.texts.ok, texts) in
    step_next g.R.RecordReader.leaves c.args.count c.args.records.now _ _ c.in_ok-last.last _ rs _ next c.in_ok-last.ensures.ok again (
      tally_read b s c.len.result c.in_ok-batch.batch rs c.deref.result.now c.args.condition.now.paths.now verdict c.tally_by-tally.result has c.deref.ensures c.requires.paths many c.in_ok-verdict.ensures.exact c.tally_by-tally.ensures,
      λ never. subst (Appends (held c.args.out.now) (held c.write_text.new.out)) (c.as_slice.ensures.value ∙ kept never) c.in_ok-write_text.ensures.whole,
    )

pub returns-clause-within : goal.returns-clause-within
returns-clause-within g c =
    let (rs, next, has, fit, few) = c.in_ok-batch.ensures.read in
    let b = bound_of c.args.condition.now.tree.now in
    let s = g.R.RecordReader.scope c.args.records.now in
    let texts : length c.in_ok-batch.batch.texts.items ≡ length rs = count_of rs c.in_ok-batch.batch.texts.items has.0 in
    let many : c.len.result ≡ length rs = search (rules, c.len.ensures, c.in_ok-batch.batch.texts.ok, texts) in
    within_chunk b s rs c.tally_by-tally.result
    (tally_read b s c.len.result c.in_ok-batch.batch rs c.deref.result.now c.args.condition.now.paths.now c.in_ok-verdict.verdict c.tally_by-tally.result has c.deref.ensures c.requires.paths many c.in_ok-verdict.ensures.exact c.tally_by-tally.ensures)
