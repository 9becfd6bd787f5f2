-- The test that a bound tree is well typed.
use Rattle.std.specs.Prelude.{Bool, true, false, ◌&&◌, Ok, Err}
use Rattle.vx_value.specs.Equality.{equal_type}
use Rattle.vx_value.specs.Fits.{fits}
use Rattle.vx_value.specs.Types.{LogicalType}
use Rattle.vx_fn.specs.Functions.{Function, literal, Typing, fn_type}
use Rattle.vx_tree.specs.Trees.{BoundTree, scope, node, BoundTrees, no_bound, bound, node_types}

-- whether typing gave this type
abbrev pub is_given : Typing → LogicalType → Bool
is_given (Ok u) t = equal_type u t
is_given (Err refusal) t = false

-- whether a literal's value is one of its type
abbrev pub has_fitting_literal : Function → Bool
has_fitting_literal (literal t v) = fits v t
has_fitting_literal _ = true

-- whether each node has the type that its function gives over its children's types
abbrev mutual
  pub is_well_typed : BoundTree → Bool
  is_well_typed (scope t) = true
  is_well_typed (node t f bs) = is_given (fn_type f (node_types bs)) t && (has_fitting_literal f && are_well_typed bs)

  pub are_well_typed : BoundTrees → Bool
  are_well_typed no_bound = true
  are_well_typed (bound b bs) = is_well_typed b && are_well_typed bs
