use Rattle.std.proofs.Common.{arith}
use Rattle.vx_rewrite_rule_laws.specs.Rules.{RuleAt}
use Rattle.vx_tree.specs.Views.{bounds_of}
use Rattle.vx_tree.proofs.Children.{typed_next}
use Rattle.vx_query.proofs.Lists.{next_form, last_form}
use Rattle.vx_query.proofs.split.optimized_each.Goals as goal

pub optimize_recursive-requires : goal.optimize_recursive-requires
optimize_recursive-requires c = (typed_next c.args.partitions.now c.loop-i.i c.index-partitions-i.result (omega arith) c.index-partitions-i.is c.loop-i.invariant.typed).0

pub loop-i-preserved : goal.loop-i-preserved
loop-i-preserved c =
    let es = c.args.partitions.now in
    let e = c.index-partitions-i.result in record {
      left = next_form RuleAt es (bounds_of es) c.loop-i.forms.items c.push.new.self.items c.loop-i.i e c.in_ok-optimize_recursive.field-0 (omega arith) c.index-partitions-i.is
          c.in_ok-push.ensures.items c.in_ok-optimize_recursive.ensures.form c.loop-i.invariant.left;
      typed = (typed_next es c.loop-i.i e (omega arith) c.index-partitions-i.is c.loop-i.invariant.typed).1;
    }

pub returns-clause-forms : goal.returns-clause-forms
returns-clause-forms c =
    let es = c.args.partitions.now in
    last_form RuleAt es (bounds_of es) c.loop-i.forms.items c.loop-i.i (omega arith) c.loop-i.invariant.left
