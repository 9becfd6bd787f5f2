-- There is one way to bind a tree to a scope.
use Rattle.std.specs.Prelude.{◌≡◌, Ok}
use Rattle.vx_value.specs.Types.{LogicalType}
use Rattle.vx_tree.specs.Trees.{BoundTree, unbound, WellTyped, Over}
use Rattle.vx_tree.specs.Binding.{binding}

-- a well-typed tree over a scope is what binding gives of its source
abbrev pub BindingIsUnique : Type 0
BindingIsUnique = (b : BoundTree) (s : LogicalType) → WellTyped b → Over b s → binding (unbound b) s ≡ Ok b
