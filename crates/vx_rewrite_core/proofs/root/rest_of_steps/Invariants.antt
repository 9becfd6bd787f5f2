use Rattle.std.proofs.Common.{ℕ}
use Rattle.vx_tree.specs.Trees.{WellTyped}
use Rattle.vx_tree.specs.Views.{bound_of}
use Rattle.vx_rewrite_core.specs.Steps.{RootSteps}
use Rattle.vx_rewrite_core.specs.Weights.{weight}
use Rattle.vx_rewrite_core.proofs.root.rest_of_steps.Given as goal

abbrev pub invariant-loop-current : goal.invariant-loop-current
invariant-loop-current g l = record {
  count : ℕ;
  steps : RootSteps (g.R.Rule.gives l.rules) (bound_of l.fn.first.value) count (bound_of l.current.value);
  typed : WellTyped (bound_of l.current.value);
}

abbrev pub decreases-loop-current : goal.decreases-loop-current
decreases-loop-current g l = weight (bound_of l.current.value)
