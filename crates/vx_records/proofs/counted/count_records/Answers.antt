-- Each step goes on where the one before it ended.
use Rattle.std.proofs.Common.{◌≡◌, ◌+◌, subst, ◌∙◌, arith}
use Rattle.vx_tree.specs.Trees.{unbound}
use Rattle.vx_tree.specs.Views.{bound_of}
use Rattle.vx_records.specs.Records.{kept_count}
use Rattle.vx_records.proofs.Counting.{count_on}
use Rattle.vx_records.proofs.Stopping.{ends_all, goes_on, stops_on}
use Rattle.vx_records.proofs.counted.count_records.Goals as goal

pub returns-in-Err-clause-stopped : goal.returns-in-Err-clause-stopped
returns-in-Err-clause-stopped g c =
    let (xs, count, before, counted, scope, few) = c.loop-left.invariant in
    stops_on g.R.RecordReader.leaves (bound_of c.args.tree.now) c.args.records.now c.loop-left.records c.in-Err.e xs (λ rs. Unit {0}) (λ rs. ⊥) (λ rs. Unit {0}) (λ rs. ⊥) before (λ ys w. tt) (λ ys w. w) c.in-Err.ensures.stopped

pub returns-then-counted-clause-counted : goal.returns-then-counted-clause-counted
returns-then-counted-clause-counted g c =
    let (xs, count, before, counted, scope, few) = c.loop-left.invariant in
    let e = unbound (bound_of c.args.tree.now) in
    let s = g.R.RecordReader.scope c.args.records.now in
    ends_all g.R.RecordReader.leaves c.args.limit c.loop-left.left c.min-count.result c.args.records.now c.loop-left.records _ c.in-Ok.counted.last xs
    (λ ys. c.in-Ok.counted.kept ≡ kept_count e (g.R.RecordReader.scope c.loop-left.records) ys)
    (λ zs. c.loop-left.kept + c.in-Ok.counted.kept ≡ kept_count e s zs)
    count (search (arith, c.min-count.ensures)) before
    (λ ys w. count_on e s xs ys _ _ counted (subst (λ t. c.in-Ok.counted.kept ≡ kept_count e t ys) scope w)) c.if-counted.true c.in-Ok.ensures.step

pub loop-left-preserved : goal.loop-left-preserved
loop-left-preserved g c =
    let (xs, count, before, counted, scope, few) = c.loop-left.invariant in
    let e = unbound (bound_of c.args.tree.now) in
    let s = g.R.RecordReader.scope c.args.records.now in
    let (zs, sum, reads, more) = goes_on g.R.RecordReader.leaves c.args.limit c.loop-left.left c.min-count.result c.args.records.now c.loop-left.records _ c.in-Ok.counted.last xs
    (λ ys. c.in-Ok.counted.kept ≡ kept_count e (g.R.RecordReader.scope c.loop-left.records) ys)
    (λ zs. c.loop-left.kept + c.in-Ok.counted.kept ≡ kept_count e s zs)
    count (search (arith, c.min-count.ensures)) before
    (λ ys w. count_on e s xs ys _ _ counted (subst (λ t. c.in-Ok.counted.kept ≡ kept_count e t ys) scope w)) c.if-counted.false c.in-Ok.ensures.step in
    (zs, sum, reads, more, c.count_some.ensures.scope ∙ scope, search (arith, few, c.in-Ok.ensures.few, c.min-count.ensures))
