-- The annotations of nodes by what a closure answered at them, and the map of these. No public contract names this file: it is for the contracts of the steps within the crate.
use Rattle.std.specs.Prelude.{◌≡◌, ◌<◌, ◌++◌, ℕ, Bool, List, [], ◌∷◌, Option, None, Some, get_or, length}
use Rattle.std.specs.Borrow.{Bor}
use Rattle.vx_tree.specs.Trees.{BoundTree, scope, node, BoundTrees, no_bound, bound}
use Rattle.vx_rewrite_analysis.specs.Answered.{tree_of, given_by, hasher_in, map_of_given}
use Rattle.vx_rewrite_analysis.specs.declared.answered.AnsweredNodes.{AnsweredNodes}
use Rattle.vx_partition.specs.Found.{found_copied, alone, found_of, set_of}
use Rattle.vx_partition.specs.Splitting.{AnnotationMap}
use Rattle.vx_partition.specs.declared.found.Found.{Found}
use Rattle.vx_partition.specs.declared.found.Found.TheVariants.{Nothing}

module _ {A : Type 0} where
  -- none where the node isn't reached; its answers; or, where it has none, those below
  abbrev pub answers_or : Option (List A) → List A → List A
  answers_or None below = []
  answers_or (Some []) below = below
  answers_or (Some (a ∷ rest)) below = a ∷ rest

  module _ (given : BoundTree → Option (List A)) where
    -- a node's answers, or, where it has none, what its children have, from left to right
    abbrev mutual
      pub gathered : BoundTree → List A
      gathered (scope t) = answers_or (given (scope t)) []
      gathered (node t f bs) = answers_or (given (node t f bs)) (gathered_in bs)

      pub gathered_in : BoundTrees → List A
      gathered_in no_bound = []
      gathered_in (bound b bs) = gathered b ++ gathered_in bs

  module _ (eq : A → A → Bool) (nodes : AnsweredNodes A) where
    -- what a node has
    abbrev pub found_at : BoundTree → Found A
    found_at b = found_of eq (gathered (given_by nodes) b)

    -- each of these is what the node of its place has
    abbrev pub AreFound : List (Found (Bor A)) → Type 0
    AreFound found = (i : ℕ) → i < length found → found_copied (get_or found i Nothing) ≡ found_at (tree_of nodes i)

    -- the map of the nodes that are reached, each with its annotations
    abbrev pub gathered_map : AnnotationMap A
    gathered_map = map_of_given (λ b. set_of eq (hasher_in nodes) (gathered (given_by nodes) b)) nodes

  -- where `only` gives the annotation that a node has alone
  abbrev pub IsOnly : AnsweredNodes A → (BoundTree → Option A) → List (Found (Bor A)) → Type 0
  IsOnly nodes only found = (i : ℕ) → i < length found → alone (found_copied (get_or found i Nothing)) ≡ only (tree_of nodes i)
