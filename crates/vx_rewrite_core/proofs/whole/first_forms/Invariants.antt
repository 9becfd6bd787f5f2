use Rattle.std.proofs.Common.{◌≡◌, ◌++◌, drop, map}
use Rattle.vx_tree.specs.Views.{bound_of}
use Rattle.vx_rewrite_core.proofs.whole.first_forms.Given as goal

abbrev pub invariant-loop-child : goal.invariant-loop-child
invariant-loop-child l = map bound_of l.first.items ++ map bound_of (drop l.child-index l.child-items) ≡ map bound_of l.child-items
