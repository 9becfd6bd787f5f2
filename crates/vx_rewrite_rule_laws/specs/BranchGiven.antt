-- The rules of a CASE by its first condition, as a function: what they give at a well-typed node, if anything.
use Rattle.std.specs.Prelude.{ℕ, ◌-◌, Bool, true, false, Option, Some, None, option_and_then, if◌then◌else◌, nat_lt}
use Rattle.std.specs.Option.{option_map}
use Rattle.std.specs.Result.{result_ok}
use Rattle.vx_value.specs.Types.{LogicalType, Datum, null, bool}
use Rattle.vx_fn.specs.Functions.{case_when}
use Rattle.vx_tree.specs.Binding.{node_over}
use Rattle.vx_tree.specs.Trees.{BoundTree, node, BoundTrees, bound, WellTyped}
use Rattle.vx_rewrite_core.specs.Nodes.{as_type, literal_value, only_one, literal_node, first_two}

-- the CASE of the other pairs, with the type that they give
abbrev pub others_given : ℕ → Bool → BoundTrees → Option BoundTree
others_given pairs has_else rest = result_ok (node_over (case_when (pairs - 1) has_else) rest)

-- what is left without the only pair: ELSE as one of the type, or null
abbrev pub last_given : LogicalType → Bool → BoundTrees → Option BoundTree
last_given t has_else rest = if has_else then option_map (as_type t) (only_one rest) else Some (literal_node t null)

-- what is left without the first pair
abbrev pub rest_given : LogicalType → ℕ → Bool → BoundTrees → Option BoundTree
rest_given t pairs has_else rest = if nat_lt 1 pairs then others_given pairs has_else rest else last_given t has_else rest

-- what is given by the first condition's value: where it is true the first value, else what is left without the first pair
abbrev pub given_by : LogicalType → ℕ → Bool → BoundTree → BoundTrees → Datum → Option BoundTree
given_by t pairs has_else x rest (bool true) = Some (as_type t x)
given_by t pairs has_else x rest (bool false) = rest_given t pairs has_else rest
given_by t pairs has_else x rest null = rest_given t pairs has_else rest
given_by t pairs has_else x rest _ = None

-- what is given at a CASE of the type
abbrev pub case_given : LogicalType → ℕ → Bool → BoundTrees → Option BoundTree
case_given t pairs has_else xs = option_and_then (λ p. option_and_then (given_by t pairs has_else p.1 p.2) (literal_value p.0)) (first_two xs)

-- what is given at a node
abbrev pub branch_given : BoundTree → Option BoundTree
branch_given (node t (case_when pairs has_else) xs) = case_given t pairs has_else xs
branch_given _ = None

-- behind some first pair the trees make a well-typed CASE of the type
abbrev pub AreBehindPair : LogicalType → ℕ → Bool → BoundTrees → Type 0
AreBehindPair t pairs has_else rest = (p : BoundTree) × (x : BoundTree) × WellTyped (node t (case_when pairs has_else) (bound p (bound x rest)))
