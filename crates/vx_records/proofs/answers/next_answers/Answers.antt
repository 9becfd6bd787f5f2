-- The rows of the batch are those of the next records.
use Rattle.std.proofs.Common.{refl, ◌∙◌, sym, ap, subst}
use Rattle.vx_value.specs.Columns.{Batch}
use Rattle.vx_tree.specs.Trees.{unbound}
use Rattle.vx_tree.specs.Views.{bound_of}
use Rattle.vx_records.specs.Chunks.{AreAnswers}
use Rattle.vx_records.proofs.Meaning.{meanings_of}
use Rattle.vx_records.proofs.Stopping.{fault_there}
use Rattle.vx_records.proofs.answers.next_answers.Goals as goal

pub returns-in_ok-new-in-Ok-clause-read : goal.returns-in_ok-new-in-Ok-clause-read
returns-in_ok-new-in-Ok-clause-read g c =
    let e = unbound (bound_of c.args.tree.now) in
    let (rs, next, (texts, over), fit, few) = c.in_ok-batch.ensures.read in
    let meant = meanings_of e _ _ rs c.deref.result.now _ _ c.in-Ok.ensures.ok (c.deref.ensures ∙ over) refl refl in
    subst (AreAnswers g.R.RecordReader.leaves c.args.count e (g.R.RecordReader.scope c.args.records.now) c.args.records.now c.next_batch.new.records) (sym c.in_ok-new-in-Ok.ensures.ok) (rs, next, (texts, over), meant)

pub returns-in-Err-clause-fault : goal.returns-in-Err-clause-fault
returns-in-Err-clause-fault g c =
    let (rs, next, (texts, over), fit, few) = c.in_ok-batch.ensures.read in
    fault_there g.R.RecordReader.leaves (bound_of c.args.tree.now) c.args.count c.args.records.now _ c.in_ok-batch.batch.stop c.in-Err.e _ rs next
    (ap (λ (b : Batch). b.rows) (c.deref.ensures ∙ over)) c.in-Err.ensures.err
