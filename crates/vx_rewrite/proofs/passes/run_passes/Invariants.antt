use Rattle.std.proofs.Common.{drop}
use Rattle.vx_tree.specs.Trees.{BoundTree}
use Rattle.vx_tree.specs.Views.{bound_of}
use Rattle.vx_rewrite_core.specs.Keeps.{Keeps}
use Rattle.vx_rewrite.specs.Passes.{Passed}
use Rattle.vx_rewrite.proofs.passes.run_passes.Given as goal

abbrev pub invariant-loop-pass : goal.invariant-loop-pass
invariant-loop-pass l = record {
  left : (u : BoundTree) → Passed (drop l.pass-index l.passes) (bound_of l.tree) u → Passed l.passes (bound_of l.fn.tree) u;
  keeps : Keeps (bound_of l.fn.tree) (bound_of l.tree);
}
