-- What expressions stand for.
use Rattle.std.specs.Prelude.{List, [], ◌∷◌, map}
use Rattle.vx_value.specs.Views.{type_of}
use Rattle.vx_fn.specs.Views.{function_of}
use Rattle.vx_tree.specs.declared.expression.Expression.{Expression, fold-Expression}
use Rattle.vx_tree.specs.declared.expression.Expression.TheOpen.{Expression-F}
use Rattle.vx_tree.specs.declared.bound.BoundExpression.{BoundExpression, fold-BoundExpression}
use Rattle.vx_tree.specs.declared.bound.BoundExpression.TheOpen.{BoundExpression-F}
use Rattle.vx_tree.specs.Trees.{Tree, root, call, Trees, no_tree, tree, BoundTree, scope, node, BoundTrees, no_bound, bound}

-- the trees one after another
abbrev pub trees_from : List Tree → Trees
trees_from [] = no_tree
trees_from (e ∷ es) = tree e (trees_from es)

-- the bound trees one after another
abbrev pub bounds_from : List BoundTree → BoundTrees
bounds_from [] = no_bound
bounds_from (b ∷ bs) = bound b (bounds_from bs)

-- one node, whose children are seen as trees already
abbrev pub tree_step : Expression-F Tree → Tree
tree_step Expression-F.Root = root
tree_step (Expression-F.Scalar f children) = call (function_of f) (trees_from children.value.items)

-- the tree that an expression stands for
abbrev pub tree_of : Expression → Tree
tree_of = fold-Expression Tree tree_step

-- the trees that expressions stand for
abbrev pub trees_of : List Expression → Trees
trees_of es = trees_from (map tree_of es)

-- one bound node, whose children are seen as bound trees already
abbrev pub bound_step : BoundExpression-F BoundTree → BoundTree
bound_step (BoundExpression-F.Root t) = scope (type_of t)
bound_step (BoundExpression-F.Scalar t f children) = node (type_of t) (function_of f) (bounds_from children.value.items)

-- the bound tree that a bound expression stands for
abbrev pub bound_of : BoundExpression → BoundTree
bound_of = fold-BoundExpression BoundTree bound_step

-- the bound trees that bound expressions stand for
abbrev pub bounds_of : List BoundExpression → BoundTrees
bounds_of bs = bounds_from (map bound_of bs)
