-- What was read with its places, and texts that are read twice.
use Rattle.std.specs.Prelude.{◌≤◌, ℕ, Bool, List, length, false, true}
use Rattle.vx_tree.specs.Trees.{Tree}
use Rattle.vx_tree.specs.Views.{tree_of}
use Rattle.vx_source_types.specs.Reading.{IsRead, Stops}
use Rattle.vx_source_types.specs.declared.error.ParseError.{ParseError}
use Rattle.vx_source_types.specs.declared.error.ParseError.TheVariants.{OutOfMemory, Unexpected}
use Rattle.vx_source_grammar.specs.ExpressionReading.{step_by}
use Rattle.vx_source_grammar.specs.States.{expression_start, open_as}
use Rattle.vx_source_operands.specs.PlacedNodes.{IsPlaced}
use Rattle.vx_source_parser.specs.declared.whole.Placed.{Placed}

-- the tree that was read
abbrev pub tree_in : Placed → Tree
tree_in p = tree_of p.expression

-- each node of it has its place, and those of a node's children lie within the node's
abbrev pub HasPlaces : Placed → Type 0
HasPlaces p = ∥ IsPlaced (tree_in p) p.places ∥₁

-- the text is read as both trees, as the first with one type of each literal that has none there, and as the second with
-- another one
abbrev pub AreReadings : ℕ → List ℕ → Tree → Tree → Type 0
AreReadings limit text e d = IsRead (step_by (open_as false)) (expression_start limit) text e × IsRead (step_by (open_as true)) (expression_start limit) text d

-- one of these readings of the text stops within it, for that reason, or memory ran out
abbrev pub StopsOpen : ℕ → List ℕ → ParseError → Type 0
StopsOpen limit text OutOfMemory = Unit {0}
StopsOpen limit text (Unexpected at x) = (at ≤ length text) × ((other : Bool) × (ds : List ℕ) × Stops (step_by (open_as other)) (expression_start limit) text ds x)
