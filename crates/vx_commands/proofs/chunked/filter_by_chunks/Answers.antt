-- What is written of the records is said of the tree that the expression is bound to, whose source it is.
use Rattle.std.proofs.Common.{◌≡◌, inl, inr, subst, sym}
use Rattle.std.specs.Bool.{IsTrue}
use Rattle.std.specs.Io.KnownBytes.{Appends}
use Rattle.std.specs.NonZero.{non_zero_usize_get}
use Rattle.vx_value.specs.Types.{LogicalType}
use Rattle.vx_fn.specs.Functions.{is_truth}
use Rattle.vx_tree.specs.Trees.{Tree, node_type}
use Rattle.vx_tree.specs.Views.{bound_of, tree_of}
use Rattle.vx_tree.specs.declared.bound.BoundExpression.{BoundExpression}
use Rattle.vx_records.specs.Outcomes.{Stops}
use Rattle.vx_commands.specs.Chunked.{BrokeByChunks, IsKeptByChunksUntil, KeptByChunks, tally_line}
use Rattle.vx_commands.specs.Rows.{IsBoundCondition}
use Rattle.vx_commands.proofs.Untold.{untold}
use Rattle.vx_commands.proofs.chunked.filter_by_chunks.Goals as goal

-- the condition over the records' own type, of the tree that is lent
bound_over : (e : Tree) (t s : LogicalType) (held lent : BoundExpression) → t ≡ s → lent ≡ held → IsBoundCondition e t (bound_of held) → IsBoundCondition e s (bound_of lent)
bound_over e t s held lent same is cond = subst (λ s. IsBoundCondition e s (bound_of lent)) same (subst (λ h. IsBoundCondition e t (bound_of h)) (sym is) cond)

pub filter_chunks-requires-clause-truth : goal.filter_chunks-requires-clause-truth
filter_chunks-requires-clause-truth g c = subst (λ t. IsTrue (is_truth (node_type (bound_of t)))) (sym c.deref.ensures) c.in-Ok.ensures.truth

pub returns-in-Err-filter_chunks-clause-error : goal.returns-in-Err-filter_chunks-clause-error
returns-in-Err-filter_chunks-clause-error g c =
    let leaves = g.R.RecordReader.leaves in
    let s = g.R.RecordReader.scope c.args.records.now in
    let head = g.R.RecordReader.head c.args.records.now in
    let e = tree_of c.args.query.now.placed.now.expression in
    let b = bound_of c.deref.result.now in
    let m = non_zero_usize_get c.args.query.now.size in
    let out = g.W.Write.contents c.args.out.now in
    let after = g.W.Write.contents c.filter_chunks.new.out in
    let told = g.E.Write.contents c.args.err.now in
    let cond = bound_over e _ s _ c.deref.result.now c.dtype.ensures c.deref.ensures c.in-Ok.ensures.bound in
    let stopped = subst (λ e. Stops leaves b c.args.records.now c.in-Err-filter_chunks.error (KeptByChunks s head e m b out after) (BrokeByChunks s head e m b out after)) cond.0.0 c.in-Err-filter_chunks.ensures.stopped in
    subst (λ r. IsKeptByChunksUntil leaves s head e m c.args.query.now.limit r c.args.records.now c.filter_chunks.new.records out after told told) (sym c.stopped.ensures) (b, cond, inl (stopped, untold told))

pub returns-in-Ok-tell-clause-kept : goal.returns-in-Ok-tell-clause-kept
returns-in-Ok-tell-clause-kept g c =
    let s = g.R.RecordReader.scope c.args.records.now in
    let head = g.R.RecordReader.head c.args.records.now in
    let e = tree_of c.args.query.now.placed.now.expression in
    let b = bound_of c.deref.result.now in
    let m = non_zero_usize_get c.args.query.now.size in
    let out = g.W.Write.contents c.args.out.now in
    let after = g.W.Write.contents c.filter_chunks.new.out in
    let cond = bound_over e _ s _ c.deref.result.now c.dtype.ensures c.deref.ensures c.in-Ok.ensures.bound in
    let (rs, reads, (is, kept)) = c.in-Ok-filter_chunks.ensures.kept in
    (b, cond, (rs, reads, (subst (λ e. KeptByChunks s head e m b out after rs) cond.0.0 kept, subst (λ t. Appends (g.E.Write.contents c.args.err.now) (g.E.Write.contents c.tell.new.err) (tally_line t)) is c.in-Ok-tell.ensures)))

pub returns-clause-error : goal.returns-clause-error
returns-clause-error g c =
    let leaves = g.R.RecordReader.leaves in
    let s = g.R.RecordReader.scope c.args.records.now in
    let head = g.R.RecordReader.head c.args.records.now in
    let e = tree_of c.args.query.now.placed.now.expression in
    let b = bound_of c.deref.result.now in
    let m = non_zero_usize_get c.args.query.now.size in
    let out = g.W.Write.contents c.args.out.now in
    let after = g.W.Write.contents c.filter_chunks.new.out in
    let cond = bound_over e _ s _ c.deref.result.now c.dtype.ensures c.deref.ensures c.in-Ok.ensures.bound in
    let (rs, reads, (is, kept)) = c.in-Ok-filter_chunks.ensures.kept in
    subst (λ r. IsKeptByChunksUntil leaves s head e m c.args.query.now.limit r c.args.records.now c.filter_chunks.new.records out after (g.E.Write.contents c.args.err.now) (g.E.Write.contents c.tell.new.err)) (sym c.stopped-in-Err-tell.ensures)
    (b, cond, inr ((rs, reads, subst (λ e. KeptByChunks s head e m b out after rs) cond.0.0 kept), tt))
