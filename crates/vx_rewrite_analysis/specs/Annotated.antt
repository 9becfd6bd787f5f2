-- Maps that have what a closure annotates the nodes of a tree with.
use Rattle.std.specs.Prelude.{◌≡◌, Bool, ◌&&◌, List, is_some, Result, Vec}
use Rattle.std.specs.Borrow.{Bor}
use Rattle.std.specs.HashMap.{HashMap}
use Rattle.std.specs.HashSet.{HashSet}
use Rattle.vx_dtype.specs.declared.error.VortexError.{VortexError}
use Rattle.vx_tree.specs.Trees.{BoundTree}
use Rattle.vx_tree.specs.declared.bound.BoundExpression.{BoundExpression}
use Rattle.vx_tree.specs.declared.exact.ExactBoundExpr.{ExactBoundExpr}
use Rattle.vx_rewrite_analysis.specs.Annotations.{answered, AnswersAlike, IsAnnotated}
use Rattle.vx_rewrite_analysis.specs.Keys.{key_of, entry_at}
use Rattle.vx_rewrite_analysis.specs.Reached.{is_reached}

-- whether n is reached from the tree
abbrev pub reached_from : BoundTree → (BoundTree → Bool) → BoundTree → Bool
reached_from b has_answers n = is_reached has_answers n b

-- whether n is reached from the tree, and has answers
abbrev pub answered_from : BoundTree → (BoundTree → Bool) → BoundTree → Bool
answered_from b has_answers n = is_reached has_answers n b && has_answers n

-- the map has these nodes, each with its annotations, by whatever the closure answers alike
abbrev pub IsAnnotatedBy : {A Z S T : Type 0} → (A → A → Bool) → (Bor BoundExpression → Result (Vec A Z) VortexError → Type 0) → ((BoundTree → Bool) → BoundTree → Bool) → HashMap ExactBoundExpr (HashSet A S) T → Type 0
IsAnnotatedBy {A} eq post these m = (answers : BoundTree → List A) → AnswersAlike eq post answers
    → ((k : ExactBoundExpr) → is_some (entry_at (key_of k) m) ≡ these (answered answers) (key_of k)) × IsAnnotated eq answers m
