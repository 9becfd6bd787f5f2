use Rattle.std.proofs.Common.{◌∙◌}
use Rattle.vx_value.specs.Paths.{minimal_paths}
use Rattle.vx_prune_tree.specs.Reading.{entry_along, facts_along}
use Rattle.vx_prune_tree.proofs.StatisticsAlong.{along-none, along-more, along-refused, along-read, along-true}
use Rattle.vx_prune_tree.proofs.chunk_stats.ChunkStats.of.Goals as goal

pub loop-path-init : goal.loop-path-init
loop-path-init c =
    let batch = c.args.batch.now in
    along-none batch.type batch.rows (minimal_paths c.args.paths.now) _ _ (c.into_iter-path-iterator.ensures.into_iter_gives ∙ c.iter-path-items.ensures) c.new-fields.ensures.items

pub loop-path-preserved : goal.loop-path-preserved
loop-path-preserved c =
    let batch = c.args.batch.now in
    along-more batch.type batch.rows (minimal_paths c.args.paths.now) _ _ c.in-Some.path.now c.loop-path.fields.items c.push.new.self.items c.in-Ok.entry
    c.loop-path.invariant c.in-Some.ensures.steps c.in-Ok.ensures c.in_ok-push-in-Ok.ensures.items

pub returns-in-Err-clause-read : goal.returns-in-Err-clause-read
returns-in-Err-clause-read c =
    let batch = c.args.batch.now in
    let all = minimal_paths c.args.paths.now in
    along-refused batch.type batch.rows all _ _ c.in-Some.path.now c.loop-path.fields.items (entry_along batch.type batch.rows c.in-Some.path.now) (facts_along batch.type all batch.rows) c.in-Err.refusal
    c.loop-path.invariant c.in-Some.ensures.steps c.in-Err.ensures

pub returns-clause-read : goal.returns-clause-read
returns-clause-read c =
    let batch = c.args.batch.now in
    along-read batch.type batch.rows (minimal_paths c.args.paths.now) _ c.loop-path.fields.items c.len.result c.loop-path.invariant c.in-None.ensures.steps.0 c.len.ensures

pub returns-clause-describes : goal.returns-clause-describes
returns-clause-describes c =
    let batch = c.args.batch.now in
    along-true batch.type batch.rows (minimal_paths c.args.paths.now) _ c.loop-path.fields.items c.len.result c.loop-path.invariant c.in-None.ensures.steps.0 c.len.ensures
