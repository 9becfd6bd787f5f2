use Rattle.std.proofs.Common.{◌≡◌, map}
use Rattle.vx_tree.specs.Trees.{root}
use Rattle.vx_tree.specs.Views.{tree_of}
use Rattle.vx_forms.specs.Fields.{field_below}
use Rattle.vx_forms.proofs.paths.field_of.Given as goal

abbrev pub invariant-loop-name : goal.invariant-loop-name
invariant-loop-name l = field_below (tree_of l.reached) (map (λ name. name.now) l.name-iterator.rest.items) ≡ field_below root (map (λ name. name.now) l.fn.names.items)
