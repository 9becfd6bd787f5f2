-- Trees that were made, and what they are bound to.
use Rattle.std.specs.Prelude.{◌≡◌, Ok}
use Rattle.std.proofs.Common.{sym, ap, ◌∙◌}
use Rattle.vx_dtype.specs.Returns.{ReturnsOrOom}
use Rattle.vx_value.specs.Types.{LogicalType}
use Rattle.vx_tree.specs.Binding.{binding}
use Rattle.vx_tree.specs.Trees.{Tree, BoundTree, unbound, WellTyped, Over}
use Rattle.vx_tree.specs.Views.{tree_of}
use Rattle.vx_tree.specs.declared.expression.Expression.{Expression}
use Rattle.vx_tree.proofs.Unique.{binding-unbound}

-- the tree is the one that was to be made
pub made : (d : Tree) (e : Expression) → ReturnsOrOom tree_of (Ok e) (Ok d) → d ≡ tree_of e
made d e given = cc

-- a bound tree is what that source is bound to
pub bound_source : (d : Tree) (t : LogicalType) (b : BoundTree) (e : Tree) (s : LogicalType) → WellTyped b → Over b s → unbound b ≡ e → d ≡ e → s ≡ t → binding d t ≡ Ok b
bound_source d t b e s w o from is over = let known = binding-unbound b s w o in ap (λ u. binding u t) (is ∙ sym from) ∙ ap (binding (unbound b)) (sym over) ∙ known
