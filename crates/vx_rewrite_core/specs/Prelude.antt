-- What the definition of a rule set names, in one place.
pub use Rattle.vx_tree.specs.Trees.{BoundTree, scope, node, BoundTrees, no_bound, bound, node_type, node_types, WellTyped, Over}
pub use Rattle.vx_tree.specs.Nodes.{bound_children_of}
pub use Rattle.vx_rewrite_core.specs.Keeps.{Keeps}
pub use Rattle.vx_rewrite_core.specs.Lawful.{Lawful}
pub use Rattle.vx_rewrite_core.specs.Steps.{Normal, NormalBelow, GivesNothing}
pub use Rattle.vx_rewrite_core.specs.Weights.{weight}
pub use Rattle.vx_rewrite_core.specs.Nodes.{one_bound, two_bounds, three_bounds, only_one, two_of, three_of, first_two, only_if, literal_node, literal_value, cast_node, AsType, as_it_is, as_cast, as_type}
pub use Rattle.vx_rewrite_core.specs.FromSubterms.{Inside, at_first, in_first, in_rest, IsLiteral, is_literal, EachFrom, from_none, from_inside, from_literal, FromSubterms}
pub use Rattle.vx_rewrite_core.specs.Sets.{either, Keeping, Lightening, StayingNormal, Functional, DecidedBy, NormalFormIsOne}
