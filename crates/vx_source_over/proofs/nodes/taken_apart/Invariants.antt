use Rattle.std.proofs.Common.{◌≡◌, map}
use Rattle.vx_value.specs.Views.{type_of}
use Rattle.vx_tree.specs.Views.{tree_of}
use Rattle.vx_source_over.specs.Views.{settled_tree, types_of}
use Rattle.vx_source_over.proofs.nodes.taken_apart.Given as goal

abbrev pub invariant-loop-settled : goal.invariant-loop-settled
invariant-loop-settled l = record {
  trees : map tree_of l.trees.items ≡ map settled_tree l.yielded;
  types : map type_of l.types.items ≡ types_of l.yielded;
}
