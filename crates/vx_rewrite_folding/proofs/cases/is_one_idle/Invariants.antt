use Rattle.std.proofs.Common.{◌≡◌, length}
use Rattle.vx_rewrite_rule_laws.specs.Folding.{idle_pairs}
use Rattle.vx_tree.specs.Views.{bounds_of}
use Rattle.vx_rewrite_folding.proofs.cases.is_one_idle.Given as goal

abbrev pub decreases-loop-rest : goal.decreases-loop-rest
decreases-loop-rest l = length l.rest

abbrev pub invariant-loop-rest : goal.invariant-loop-rest
invariant-loop-rest l = idle_pairs (bounds_of l.fn.trees) ≡ idle_pairs (bounds_of l.rest)
