use Rattle.std.proofs.Common.{drop}
use Rattle.vx_rewrite_rule_laws.specs.Rules.{RuleAt}
use Rattle.vx_tree.specs.Trees.{EachWellTyped}
use Rattle.vx_tree.specs.Views.{bounds_of}
use Rattle.vx_query.proofs.Lists.{FormsLeft}
use Rattle.vx_query.proofs.split.optimized_each.Given as goal

abbrev pub invariant-loop-i : goal.invariant-loop-i
invariant-loop-i l = record {
  left : FormsLeft RuleAt (bounds_of l.partitions) l.forms.items (bounds_of (drop l.i l.partitions));
  typed : EachWellTyped (bounds_of (drop l.i l.partitions));
}
