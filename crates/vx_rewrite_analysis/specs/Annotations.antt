-- Annotations of the nodes of a tree.
use Rattle.std.specs.Prelude.{◌≡◌, Bool, true, false, ◌||◌, List, [], ◌∷◌, IfSome, if◌then◌else◌, Result, Ok, Vec}
use Rattle.std.specs.Borrow.{Bor}
use Rattle.std.specs.HashMap.{HashMap}
use Rattle.std.specs.HashSet.{HashSet, contains}
use Rattle.std.specs.List.{list_any}
use Rattle.vx_dtype.specs.declared.error.VortexError.{VortexError}
use Rattle.vx_tree.specs.Trees.{BoundTree, scope, node, BoundTrees, no_bound, bound}
use Rattle.vx_tree.specs.Views.{bound_of}
use Rattle.vx_tree.specs.declared.bound.BoundExpression.{BoundExpression}
use Rattle.vx_tree.specs.declared.exact.ExactBoundExpr.{ExactBoundExpr}
use Rattle.vx_rewrite_analysis.specs.Keys.{key_of, entry_at}

-- whether there is some item
abbrev pub is_some_item : {A : Type 0} → List A → Bool
is_some_item [] = false
is_some_item (a ∷ rest) = true

-- whether a node has answers of its own
abbrev pub answered : {A : Type 0} → (BoundTree → List A) → BoundTree → Bool
answered answers b = is_some_item (answers b)

module _ {A : Type 0} (eq : A → A → Bool) where
  -- two lists with the same annotations
  abbrev pub SameAnnotations : List A → List A → Type 0
  SameAnnotations xs ys = (a : A) → list_any (eq a) xs ≡ list_any (eq a) ys

  -- a closure whose answers at equal nodes are the same
  abbrev pub AnswersAlike : {Z : Type 0} → (Bor BoundExpression → Result (Vec A Z) VortexError → Type 0) → (BoundTree → List A) → Type 0
  AnswersAlike {Z} post answers = (x : Bor BoundExpression) (v : Vec A Z) → post x (Ok v) → SameAnnotations v.items (answers (bound_of x.now))

  module _ (answers : BoundTree → List A) where
    -- whether a is an annotation of the node: one of its answers, or, where it has none, an annotation of some child
    abbrev mutual
      pub is_annotation : A → BoundTree → Bool
      is_annotation a (scope t) = list_any (eq a) (answers (scope t))
      is_annotation a (node t f bs) = if answered answers (node t f bs) then list_any (eq a) (answers (node t f bs)) else is_annotation_in a bs

      -- whether a is an annotation of one of the nodes
      pub is_annotation_in : A → BoundTrees → Bool
      is_annotation_in a no_bound = false
      is_annotation_in a (bound b bs) = is_annotation a b || is_annotation_in a bs

    -- the set of a node's annotations
    abbrev pub IsAnnotationsOf : {S : Type 0} → BoundTree → HashSet A S → Type 0
    IsAnnotationsOf b s = (a : A) → contains eq s a ≡ is_annotation a b

    -- each entry is the set of its node's annotations
    abbrev pub IsAnnotated : {S Z : Type 0} → HashMap ExactBoundExpr (HashSet A S) Z → Type 0
    IsAnnotated m = (k : ExactBoundExpr) → IfSome (entry_at (key_of k) m) (IsAnnotationsOf (key_of k))
