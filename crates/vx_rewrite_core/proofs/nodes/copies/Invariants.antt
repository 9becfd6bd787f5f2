use Rattle.std.proofs.Common.{◌≡◌, ◌++◌, drop, map}
use Rattle.vx_tree.specs.Views.{bound_of}
use Rattle.vx_rewrite_core.proofs.nodes.copies.Given as goal

abbrev pub invariant-loop-b : goal.invariant-loop-b
invariant-loop-b l = map bound_of l.copied.items ++ map bound_of (drop l.b-index l.trees) ≡ map bound_of l.trees
