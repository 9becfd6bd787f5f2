use Rattle.std.proofs.Common.{◌≡◌, Err, rules, subst, sym}
use Rattle.vx_dtype.specs.declared.error.VortexError.TheVariants.{OutOfMemory}
use Rattle.vx_value.specs.Fits.{IsBatch}
use Rattle.vx_value.proofs.Misfits.{no_misfit}
use Rattle.vx_tree.specs.Trees.{Over}
use Rattle.vx_tree.specs.Views.{bound_of, tree_of}
use Rattle.vx_query.specs.Promises.{Promised}
use Rattle.vx_query_split.specs.Sources.{IsBound}
use Rattle.vx_query.specs.Queries.{passed}
use Rattle.vx_query.proofs.Ending.{memory_ends, refusal_ends, evaluation_ends}
use Rattle.vx_array_query.proofs.query.run_query_array.Goals as goal

-- the source has no type, or memory ran out
pub returns-in_err-bound : goal.returns-in_err-bound
returns-in_err-bound c =
    let e = tree_of c.args.source.now in
    let is : c.from_residual.result ≡ Err c.in_err-bound.field-0.0 = search rules in
    let all = subst (Promised e c.args.batch.now c.args.passes.now c.args.split) (sym is)
    (refusal_ends e c.args.batch.now c.args.passes.now c.args.split c.in_err-bound.field-0.0 (rw c.dtype.ensures at c.in_err-bound.ensures.typed)) in
    record { refusal = all.refusal; meaning = all.meaning; faults = all.faults; run = all.run }

-- memory ran out in a pass
pub returns-in_err-tree : goal.returns-in_err-tree
returns-in_err-tree c =
    let e = tree_of c.args.source.now in
    let memory : c.in_err-tree.field-0.0 ≡ OutOfMemory = c.in_err-tree.ensures.memory in
    let is : c.from_residual-in_err-tree.result ≡ Err OutOfMemory = search (rules, memory) in
    let all = subst (Promised e c.args.batch.now c.args.passes.now c.args.split) (sym is) (memory_ends e c.args.batch.now c.args.passes.now c.args.split) in
    record { refusal = all.refusal; meaning = all.meaning; faults = all.faults; run = all.run }

pub run_tree-answer-requires-clause-over : goal.run_tree-answer-requires-clause-over
run_tree-answer-requires-clause-over c = c.in_ok-tree.ensures.keeps.scopes c.args.batch.now.type (rw (← c.dtype.ensures) c.in_ok-bound.ensures.over.0)

-- the tree was evaluated
pub returns : goal.returns
returns c =
    let e = tree_of c.args.source.now in
    let column = c.args.batch.now in
    let over : Over (bound_of c.in_ok-bound.bound) column.type = rw (← c.dtype.ensures) c.in_ok-bound.ensures.over.0 in
    let is : IsBound e column.type (bound_of c.in_ok-bound.bound) = record { source = c.in_ok-bound.ensures.over.1; well_typed = c.in_ok-bound.ensures.well_typed; over = over } in
    let fit : IsBatch column.type column.rows = (no_misfit column.type column.rows).0 c.lanes-lanes.ensures.fit in
    let all = evaluation_ends e column c.args.passes.now c.args.split (bound_of c.in_ok-bound.bound) c.run_tree-answer.result is fit (passed c.in_ok-tree.ensures.passed c.run_tree-answer.ensures) in
    record { refusal = all.refusal; meaning = all.meaning; faults = all.faults; run = all.run }
