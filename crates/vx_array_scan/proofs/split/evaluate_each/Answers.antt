use Rattle.std.proofs.Common.{arith}
use Rattle.vx_query_split.proofs.Answered.{next_column, all_columns}
use Rattle.vx_tree.proofs.Children.{typed_next, over_next}
use Rattle.vx_array_scan.proofs.split.evaluate_each.Goals as goal

pub loop-i-preserved : goal.loop-i-preserved
loop-i-preserved c =
    let es = c.args.partitions.now in
    let e = c.index-partitions-i.result in
    let over = over_next c.args.batch.now.type es c.loop-i.i e (omega arith) c.index-partitions-i.is c.loop-i.invariant.over in record {
      answers = next_column es c.args.batch.now c.loop-i.columns.items c.push.new.self.items c.loop-i.i e c.in_ok-apply_array.field-0 _ (omega arith) c.index-partitions-i.is
          c.in_ok-push.ensures.items (c.in_ok-apply_array.ensures.meaning over.0) c.loop-i.invariant.answers;
      typed = (typed_next es c.loop-i.i e (omega arith) c.index-partitions-i.is c.loop-i.invariant.typed).1;
      over = over.1;
    }

pub returns : goal.returns
returns c = all_columns c.args.partitions.now c.args.batch.now c.loop-i.columns.items c.loop-i.i _ (omega arith) c.loop-i.invariant.answers
