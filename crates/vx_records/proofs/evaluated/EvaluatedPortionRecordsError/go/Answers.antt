-- The next records are read, and what the tree means at them is written.
use Rattle.std.proofs.Common.{subst, ap, ◌∙◌}
use Rattle.vx_records.specs.declared.answers.Answers.{Answers}
use Rattle.vx_records.specs.Outcomes.{Gains}
use Rattle.vx_records.proofs.Stopping.{err_map, next_reads, stops_first, stops_next}
use Rattle.vx_records.proofs.Written.{gains_none}
use Rattle.vx_records.proofs.evaluated.EvaluatedPortionRecordsError.go.Goals as goal

pub returns-in-Err-clause-stopped : goal.returns-in-Err-clause-stopped
returns-in-Err-clause-stopped g c = stops_first g.R.RecordReader.leaves _ _ c.in-Err.e _ _ (gains_none (g.W.RowWriter.written c.args.out.now)) c.in-Err.ensures.fault

pub returns-in-Err-write-clause-stopped : goal.returns-in-Err-write-clause-stopped
returns-in-Err-write-clause-stopped g c =
    let (rs, next, _, _) = c.in-Ok.ensures.read in
    let (mid, reads) = next_reads g.R.RecordReader.leaves c.args.count c.args.records.now _ _ rs next in
    (mid, rs, reads, tt)

pub returns-clause-stopped : goal.returns-clause-stopped
returns-clause-stopped g c =
    let (rs, next, _, meant) = c.in-Ok.ensures.read in
    err_map c.ended.result _ _ (λ e fine. stops_next g.R.RecordReader.leaves _ c.args.count c.args.records.now _ _ e rs _ _ next (subst (Gains (g.W.RowWriter.written c.args.out.now) (g.W.RowWriter.written c.write.new.self)) (ap (λ (a : Answers). a.values.rows) c.deref.ensures ∙ meant) c.in_default.ensures) fine) c.ended.ensures.err
