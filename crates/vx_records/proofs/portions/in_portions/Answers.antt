-- Each portion goes on where the one before it ended.
use Rattle.std.proofs.Common.{subst, ◌∙◌, arith}
use Rattle.vx_records.proofs.Stopping.{ends_all, goes_on}
use Rattle.vx_records.proofs.portions.in_portions.Goals as goal

pub returns-in-Ok-true-clause-written : goal.returns-in-Ok-true-clause-written
returns-in-Ok-true-clause-written g c =
    let (xs, count, before, wrote, scope) = c.loop-left.invariant in
    let p = c.args.portion.now in
    let s = g.R.RecordReader.scope c.args.records.now in
    ends_all g.R.RecordReader.leaves c.args.limit c.loop-left.left c.min-count.result c.args.records.now c.loop-left.records _ _ xs
    (g.P.Portion.writes p (g.R.RecordReader.scope c.loop-left.records) c.loop-left.out c.go.new.out)
    (g.P.Portion.writes p s c.args.out.now c.go.new.out)
    count (search (arith, c.min-count.ensures)) before
    (λ ys w. c.requires.on c.args.out.now c.loop-left.out _ xs ys wrote (subst (λ t. g.P.Portion.writes p t c.loop-left.out c.go.new.out ys) scope w)) c.in-Ok-true.field-0-test c.in-Ok-true.ensures.step

pub loop-left-preserved : goal.loop-left-preserved
loop-left-preserved g c =
    let (xs, count, before, wrote, scope) = c.loop-left.invariant in
    let p = c.args.portion.now in
    let s = g.R.RecordReader.scope c.args.records.now in
    let (zs, sum, reads, written) = goes_on g.R.RecordReader.leaves c.args.limit c.loop-left.left c.min-count.result c.args.records.now c.loop-left.records _ _ xs
    (g.P.Portion.writes p (g.R.RecordReader.scope c.loop-left.records) c.loop-left.out c.go.new.out)
    (g.P.Portion.writes p s c.args.out.now c.go.new.out)
    count (search (arith, c.min-count.ensures)) before
    (λ ys w. c.requires.on c.args.out.now c.loop-left.out _ xs ys wrote (subst (λ t. g.P.Portion.writes p t c.loop-left.out c.go.new.out ys) scope w)) c.in-Ok-false.field-0-test c.in-Ok-false.ensures.step in
    (zs, sum, reads, written, c.go.ensures.scope ∙ scope)

pub returns-in-Err-clause-stopped : goal.returns-in-Err-clause-stopped
returns-in-Err-clause-stopped g c =
    let (xs, count, before, wrote, scope) = c.loop-left.invariant in
    let p = c.args.portion.now in
    let s = g.R.RecordReader.scope c.args.records.now in
    c.requires.later c.args.records.now c.loop-left.records c.args.out.now c.loop-left.out c.go.new.out c.in-Err.e xs before wrote
    (subst (λ t. g.P.Portion.stops p t c.loop-left.records c.loop-left.out c.go.new.out c.in-Err.e) scope c.in-Err.ensures.stopped)
