use Rattle.std.proofs.Common.{◌≡◌, length, map}
use Rattle.vx_rewrite_folding.specs.Behind.{behind_all}
use Rattle.vx_rewrite_rule_laws.specs.Folding.{without_idle}
use Rattle.vx_tree.specs.Views.{bound_of, bounds_of}
use Rattle.vx_rewrite_folding.proofs.cases.without_idle.Given as goal

abbrev pub decreases-loop-rest : goal.decreases-loop-rest
decreases-loop-rest l = length l.rest

abbrev pub invariant-loop-rest : goal.invariant-loop-rest
invariant-loop-rest l = behind_all (map bound_of l.kept.items) (without_idle (bounds_of l.rest)) ≡ behind_all (map bound_of l.fn.first.items) (without_idle (bounds_of l.fn.trees))
