-- A tree with holes in place of its pieces, which takes them out of the partitions.
use Rattle.std.specs.Prelude.{ℕ, Bool, List, [], ◌++◌, length, Option, Some, None}
use Rattle.vx_value.specs.Types.{Name, LogicalType}
use Rattle.vx_tree.specs.Trees.{BoundTree, scope, node, BoundTrees, no_bound, bound}
use Rattle.vx_partition_laws.specs.Items.{item_of}
use Rattle.vx_partition_laws.specs.Pieces.{Piece, pieces, pieces_of, groups}
use Rattle.vx_partition_laws.specs.Partitions.{piece_name, partitioned_type}

-- the piece of that index of an annotation, taken out of its partition, over the partitions' type s
abbrev pub hole : LogicalType → (text : List ℕ) → (name : Name) → ℕ → BoundTree
hole s text name i = item_of (piece_name text i) (item_of name (scope s))

module _ {A : Type 0} (eq : A → A → Bool) (text : A → List ℕ) (name : A → Name) where
  module _ (only : BoundTree → Option A) (s : LogicalType) where
    -- a piece becomes a hole, whose index is the number of earlier pieces with its annotation
    abbrev pub hole_or : Option A → List (Piece A) → BoundTree → BoundTree
    hole_or None before b = b
    hole_or (Some a) before b = hole s (text a) (name a) (length (pieces_of eq before a))

    -- the tree with a hole in place of each piece, where `before` has the pieces to its left
    abbrev mutual
      pub with_holes : List (Piece A) → BoundTree → BoundTree
      with_holes before (scope t) = hole_or (only (scope t)) before (scope t)
      with_holes before (node t f bs) = hole_or (only (node t f bs)) before (node t f (each_with_holes before bs))

      pub each_with_holes : List (Piece A) → BoundTrees → BoundTrees
      each_with_holes before no_bound = no_bound
      each_with_holes before (bound b bs) = bound (with_holes before b) (each_with_holes (before ++ pieces only b) bs)

  -- the tree with holes over the type of its own partitions
  abbrev pub recombination : (BoundTree → Option A) → BoundTree → BoundTree
  recombination only b = with_holes only (partitioned_type text name (groups eq only b)) [] b
