-- The next records are read, and what the value means at those that are kept is written.
use Rattle.std.proofs.Common.{[], refl, subst, sym, ap, ◌∙◌}
use Rattle.vx_value.specs.Columns.{Batch}
use Rattle.vx_tree.specs.Trees.{unbound}
use Rattle.vx_tree.specs.Views.{bound_of}
use Rattle.vx_records.specs.Chunks.{IsFaultOver, IsKeptBatch}
use Rattle.vx_records.specs.Outcomes.{Gains, IsFaultOn}
use Rattle.vx_records.specs.Records.{kept}
use Rattle.vx_records.proofs.Going.{reads_none}
use Rattle.vx_records.proofs.Meaning.{meanings_of}
use Rattle.vx_records.proofs.Selecting.{selected_fault}
use Rattle.vx_records.proofs.Stopping.{next_reads, step_next, stops_first, stops_next}
use Rattle.vx_records.proofs.Written.{gains_none}
use Rattle.vx_records.proofs.selected.SelectionPortionSelectError.go.Goals as goal

pub returns-in-Err-clause-stopped : goal.returns-in-Err-clause-stopped
returns-in-Err-clause-stopped g c = stops_first g.R.RecordReader.leaves _ _ c.in-Err.e _ _ (gains_none (g.W.RowWriter.written c.args.out.now)) c.in-Err.ensures.fault

pub returns-in-Err-Fault-clause-stopped : goal.returns-in-Err-Fault-clause-stopped
returns-in-Err-Fault-clause-stopped g c =
    let e = unbound (bound_of c.args.self.now.condition.now) in
    let s = g.R.RecordReader.scope c.args.records.now in
    let (rs, next, is, count) = subst (IsKeptBatch g.R.RecordReader.leaves c.args.count e s c.args.records.now c.next_kept.new.records) (sym c.into_inner-rows.ensures) c.in-Ok.ensures.read in
    let (mid, reads) = next_reads g.R.RecordReader.leaves c.args.count c.args.records.now _ _ rs next in
    let over = subst (IsFaultOver (bound_of c.args.self.now.value.now) c.deref.result.now.rows) c.in-Err-Fault.field-0-is c.in-Err-Fault.ensures.err in
    let there : IsFaultOn (bound_of c.args.self.now.value.now) (kept e s rs) c.in-Err-Fault.fault = selected_fault (bound_of c.args.self.now.value.now) c.deref.result.now.rows _ c.in-Err-Fault.fault (ap (λ (b : Batch). b.rows) (c.deref.ensures ∙ is)) over in
    (mid, [], rs, reads, gains_none (g.W.RowWriter.written c.args.out.now), subst (IsFaultOn (bound_of c.args.self.now.value.now) (kept e s rs)) (sym c.in-Err-Fault.fault-is) there)

pub returns-in-Err-values_of : goal.returns-in-Err-values_of
returns-in-Err-values_of g c = record {
  step = tt;
  stopped = (c.args.records.now, [], reads_none (g.R.RecordReader.leaves c.args.records.now), gains_none (g.W.RowWriter.written c.args.out.now));
  scope = c.next_kept.ensures.scope;
}

pub returns-in-Err-write-clause-stopped : goal.returns-in-Err-write-clause-stopped
returns-in-Err-write-clause-stopped g c =
    let (rs, next, is, count) = c.in-Ok.ensures.read in
    let (mid, reads) = next_reads g.R.RecordReader.leaves c.args.count c.args.records.now _ _ rs next in
    (mid, rs, reads, tt)

pub returns-in-Ok-are_last-clause-step : goal.returns-in-Ok-are_last-clause-step
returns-in-Ok-are_last-clause-step g c =
    let e = unbound (bound_of c.args.self.now.condition.now) in
    let v = unbound (bound_of c.args.self.now.value.now) in
    let s = g.R.RecordReader.scope c.args.records.now in
    let (rs, next, is, count) = subst (IsKeptBatch g.R.RecordReader.leaves c.args.count e s c.args.records.now c.next_kept.new.records) (sym c.into_inner-rows.ensures) c.in-Ok.ensures.read in
    let meant = meanings_of v s s (kept e s rs) c.deref.result.now _ _ c.in-Ok-values_of.ensures.ok (c.deref.ensures ∙ is) refl refl in
    step_next g.R.RecordReader.leaves c.args.count c.args.records.now _ _ c.in-Ok-are_last.last _ rs _ next c.in-Ok-are_last.ensures.ok count
    (subst (Gains (g.W.RowWriter.written c.args.out.now) (g.W.RowWriter.written c.write.new.self)) meant c.in_default.ensures)

pub returns-clause-stopped : goal.returns-clause-stopped
returns-clause-stopped g c =
    let e = unbound (bound_of c.args.self.now.condition.now) in
    let v = unbound (bound_of c.args.self.now.value.now) in
    let s = g.R.RecordReader.scope c.args.records.now in
    let (rs, next, is, count) = subst (IsKeptBatch g.R.RecordReader.leaves c.args.count e s c.args.records.now c.next_kept.new.records) (sym c.into_inner-rows.ensures) c.in-Ok.ensures.read in
    let meant = meanings_of v s s (kept e s rs) c.deref.result.now _ _ c.in-Ok-values_of.ensures.ok (c.deref.ensures ∙ is) refl refl in
    stops_next g.R.RecordReader.leaves _ c.args.count c.args.records.now _ _ c.in-Err-are_last.e rs _ _ next
    (subst (Gains (g.W.RowWriter.written c.args.out.now) (g.W.RowWriter.written c.write.new.self)) meant c.in_default.ensures) c.in-Err-are_last.ensures.err
