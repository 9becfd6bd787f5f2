-- What passes promise.
use Rattle.std.specs.Prelude.{List}
use Rattle.vx_tree.specs.Trees.{BoundTree, WellTyped}
use Rattle.vx_rewrite_core.specs.Keeps.{Keeps}
use Rattle.vx_rewrite.specs.declared.passes.Pass.{Pass}
use Rattle.vx_rewrite.specs.Passes.{Passed}

-- whatever the passes answer for a well-typed tree keeps it
abbrev pub PassesKeep : Type 0
PassesKeep = (passes : List Pass) (b u : BoundTree) → WellTyped b → Passed passes b u → Keeps b u
