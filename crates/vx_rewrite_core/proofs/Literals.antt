-- The shape of a literal.
use Rattle.std.proofs.Common.{◌≡◌, refl}
use Rattle.std.specs.Prelude.{Ok}
use Rattle.vx_value.specs.Types.{LogicalType, Datum}
use Rattle.vx_fn.specs.Functions.{literal, fn_type}
use Rattle.vx_tree.specs.Trees.{node, BoundTrees, no_bound, bound, node_types, WellTyped}
use Rattle.vx_rewrite_core.specs.Nodes.{literal_node}

literal_alone : (t u : LogicalType) (c : Datum) (ls : BoundTrees) → fn_type (literal u c) (node_types ls) ≡ Ok t → node t (literal u c) ls ≡ literal_node t c
literal_alone t u c no_bound e = let q : u ≡ t = cc in rw q refl
literal_alone t u c (bound l ls) e = cc

-- a literal has no children, and its own type
pub literal_shape : (t u : LogicalType) (c : Datum) (ls : BoundTrees) → WellTyped (node t (literal u c) ls) → node t (literal u c) ls ≡ literal_node t c
literal_shape t u c ls w = literal_alone t u c ls w.0
