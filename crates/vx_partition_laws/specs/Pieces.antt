-- The pieces of a tree, which are its outermost nodes with exactly one annotation, and their groups.
-- `only` gives the annotation of a node that has exactly one, and None of any other node.
use Rattle.std.specs.Prelude.{Bool, not, List, [], ◌∷◌, ◌++◌, map, Option, Some, None, if◌then◌else◌, is_some}
use Rattle.std.specs.List.{filter}
use Rattle.vx_tree.specs.Trees.{BoundTree, scope, node, BoundTrees, no_bound, bound}
use Rattle.vx_rewrite_analysis.specs.Covers as covers

-- a node with its annotation
abbrev pub Piece : Type 0 → Type 0
Piece A = A × BoundTree

-- an annotation with the nodes that have it
abbrev pub Group : Type 0 → Type 0
Group A = A × List BoundTree

module _ {A : Type 0} where
  -- a node with one annotation is a piece, and those below it are none
  abbrev pub piece_or : Option A → BoundTree → List (Piece A) → List (Piece A)
  piece_or None b below = below
  piece_or (Some a) b below = (a, b) ∷ []

  module _ (only : BoundTree → Option A) where
    -- the pieces, from left to right
    abbrev mutual
      pub pieces : BoundTree → List (Piece A)
      pieces (scope t) = piece_or (only (scope t)) (scope t) []
      pieces (node t f bs) = piece_or (only (node t f bs)) (node t f bs) (each_pieces bs)

      pub each_pieces : BoundTrees → List (Piece A)
      each_pieces no_bound = []
      each_pieces (bound b bs) = pieces b ++ each_pieces bs

    -- each scope root lies at or below a piece
    abbrev pub Covered : BoundTree → Type 0
    Covered b = covers.Covered (λ c. is_some (only c)) b

    abbrev pub EachCovered : BoundTrees → Type 0
    EachCovered bs = covers.AreCovered (λ c. is_some (only c)) bs

  module _ (eq : A → A → Bool) where
    -- the nodes that have the annotation, in order
    abbrev pub pieces_of : List (Piece A) → A → List BoundTree
    pieces_of [] a = []
    pieces_of (x ∷ xs) a = if eq a x.0 then x.1 ∷ pieces_of xs a else pieces_of xs a

    -- the annotations but that one
    abbrev pub others : A → List A → List A
    others a = filter (λ b. not (eq a b))

    -- the annotations without repetition, each where it first appears
    abbrev pub annotations_of : List (Piece A) → List A
    annotations_of [] = []
    annotations_of (x ∷ xs) = x.0 ∷ others x.0 (annotations_of xs)

    -- these annotations with the pieces that have them
    abbrev pub grouped : List (Piece A) → List A → List (Group A)
    grouped xs = map (λ a. (a, pieces_of xs a))

    -- the pieces of the tree by their annotations, in the order in which these first appear
    abbrev pub groups : (BoundTree → Option A) → BoundTree → List (Group A)
    groups only b = grouped (pieces only b) (annotations_of (pieces only b))
