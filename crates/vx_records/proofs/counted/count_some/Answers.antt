-- The next records are read, and those of them are counted of which the tree is true.
use Rattle.std.proofs.Common.{ap, ◌∙◌}
use Rattle.vx_tree.specs.Trees.{unbound}
use Rattle.vx_tree.specs.Views.{bound_of}
use Rattle.vx_records.specs.declared.answers.Answers.{Answers}
use Rattle.vx_records.proofs.Counting.{count_few, count_read}
use Rattle.vx_records.proofs.Keeping.{count_of}
use Rattle.vx_records.proofs.Stopping.{step_next, stops_first, stops_next}
use Rattle.vx_records.proofs.counted.count_some.Goals as goal

pub returns-in-Err-clause-stopped : goal.returns-in-Err-clause-stopped
returns-in-Err-clause-stopped g c = stops_first g.R.RecordReader.leaves _ _ c.in-Err.e _ _ tt c.in-Err.ensures.fault

pub returns-in-Ok-ended-clause-step : goal.returns-in-Ok-ended-clause-step
returns-in-Ok-ended-clause-step g c =
    let (rs, next, (texts, over), meant) = c.in-Ok.ensures.read in
    let values = c.rows.ensures.rows ∙ ap (λ (a : Answers). a.values.rows) c.deref.ensures ∙ meant in
    let kept = count_read (unbound (bound_of c.args.tree.now)) (g.R.RecordReader.scope c.args.records.now) c.rows.result.now rs c.true_count-kept.result c.true_count-kept.ensures values in
    step_next g.R.RecordReader.leaves c.args.count c.args.records.now _ _ c.in-Ok-ended.last _ rs _ next c.in-Ok-ended.ensures.ok (count_of rs _ texts) kept

pub returns-in-Ok-ended-clause-few : goal.returns-in-Ok-ended-clause-few
returns-in-Ok-ended-clause-few g c =
    count_few g.R.RecordReader.leaves c.args.count c.args.records.now _ c.in-Ok-ended.last (unbound (bound_of c.args.tree.now)) (g.R.RecordReader.scope c.args.records.now) c.true_count-kept.result (returns-in-Ok-ended-clause-step g c)

pub returns-in-Err-ended-clause-stopped : goal.returns-in-Err-ended-clause-stopped
returns-in-Err-ended-clause-stopped g c =
    let (rs, next, (texts, over), meant) = c.in-Ok.ensures.read in
    stops_next g.R.RecordReader.leaves _ c.args.count c.args.records.now _ _ c.in-Err-ended.e rs _ _ next tt c.in-Err-ended.ensures.err
