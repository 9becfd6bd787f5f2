use Rattle.std.proofs.Common.{◌≡◌, ◌++◌, drop}
use Rattle.vx_eval.proofs.conjunction.Conjunction.before.Given as goal

abbrev pub invariant-loop-k : goal.invariant-loop-k
invariant-loop-k l = record {
  count : l.joined-inside.count ≡ l.initial.joined-inside.count;
  items : l.joined-inside.items.items ++ drop l.k l.others ≡ l.initial.joined-inside.items.items ++ l.others;
}
