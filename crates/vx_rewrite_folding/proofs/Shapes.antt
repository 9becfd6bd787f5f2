-- What is known of a node by its parts is known of the node.
use Rattle.std.proofs.Common.{◌≡◌, refl}
use Rattle.std.specs.Prelude.{Some, None}
use Rattle.vx_value.specs.Types.{LogicalType}
use Rattle.vx_fn.specs.Functions.{Function}
use Rattle.vx_tree.specs.Nodes.{function_at, bound_children_of}
use Rattle.vx_tree.specs.Trees.{BoundTree, BoundTrees, scope, node, node_type, unbound}
use Rattle.vx_rewrite_rule_laws.specs.Folding.{known_given}

-- a node of a function is that of its type and its children
pub node_of : (b : BoundTree) (t : LogicalType) (f : Function) (xs : BoundTrees) → Some f ≡ function_at (unbound b) → t ≡ node_type b → xs ≡ bound_children_of b → b ≡ node t f xs
node_of (scope s) t f xs is typed those = cc
node_of (node u g ys) t f xs is typed those = let same : f ≡ g = cc in rw (same, typed, those) refl

-- of what is no node of a function nothing is known
pub nothing_of_scope : (b : BoundTree) → None ≡ function_at (unbound b) → known_given b ≡ None
nothing_of_scope (scope s) none = refl
nothing_of_scope (node t f xs) none = cc
