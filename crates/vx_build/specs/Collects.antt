-- What a collect of expressions gives.
use Rattle.std.specs.Prelude.{◌≡◌, ◌≤◌, List, [], ◌∷◌, length, map, Option, option_map, IfSome, Result, Ok, Err, IfOk, IfErr, IsOk, MatchBool}
use Rattle.std.specs.List.{list_all}
use Rattle.vx_dtype.specs.declared.error.VortexError.{VortexError}
use Rattle.vx_dtype.specs.declared.error.VortexError.TheVariants.{OutOfMemory, NotBool}
use Rattle.vx_dtype.specs.Returns.{ReturnsOrOom}
use Rattle.vx_value.specs.Types.{LogicalType}
use Rattle.vx_fn.specs.Functions.{Operation, binary, is_truth}
use Rattle.vx_tree.specs.declared.expression.Expression.{Expression}
use Rattle.vx_tree.specs.declared.bound.BoundExpression.{BoundExpression}
use Rattle.vx_tree.specs.Binding.{node_over}
use Rattle.vx_tree.specs.Trees.{Tree, call, BoundTree, node_type, unbound, WellTyped, EachWellTyped, Over, EachOver}
use Rattle.vx_tree.specs.Views.{trees_from, bounds_from, tree_of, bound_of}
use Rattle.vx_build.specs.Rounds.{Pairing, collected}

-- two trees under an operator
abbrev pub paired_trees : Operation → Pairing Tree
paired_trees op l r = Ok (call (binary op) (trees_from (l ∷ r ∷ [])))

-- two bound trees under an operator, with the type that it gives, or its refusal
abbrev pub paired_bounds : Operation → Pairing BoundTree
paired_bounds op l r = node_over (binary op) (bounds_from (l ∷ r ∷ []))

-- the call gave what the rounds leave of the items, and refuses for memory alone
pub record CollectsTrees (op : Operation) (es : List Tree) (result : Result (Option Expression) VortexError) : Type 0 where
  pub left : ReturnsOrOom (option_map tree_of) result (collected (paired_trees op) es)
  pub memory_alone : IfErr result (λ e. e ≡ OutOfMemory)

-- the call gave what the rounds leave of the bound items, or the first refusal of a pair, unless memory ran out; what is
-- left is well typed and over a scope where the items are, and its source is what the rounds leave of theirs
pub record CollectsBound (op : Operation) (bs : List BoundTree) (result : Result (Option BoundExpression) VortexError) : Type 0 where
  pub left : ReturnsOrOom (option_map bound_of) result (collected (paired_bounds op) bs)
  pub well_typed : EachWellTyped (bounds_from bs) → IfOk result (λ o. IfSome o (λ b. WellTyped (bound_of b)))
  pub over : (s : LogicalType) → EachOver (bounds_from bs) s → IfOk result (λ o. IfSome o (λ b. Over (bound_of b) s))
  pub source : IfOk result (λ o. collected (paired_trees op) (map unbound bs) ≡ Ok (option_map (λ b. unbound (bound_of b)) o))

-- at least two bound items are collected exactly where each is of type Bool, and else refused as not being so
abbrev pub CollectsTruthsAlone : Operation → Type 0
CollectsTruthsAlone op =
    (bs : List BoundTree) → 2 ≤ length bs
    → MatchBool (list_all (λ b. is_truth (node_type b)) bs) (IsOk (collected (paired_bounds op) bs)) (collected (paired_bounds op) bs ≡ Err NotBool)
