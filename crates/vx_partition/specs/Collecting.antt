-- What a walk collects: the pieces in groups, and a mark for each node that it visits. No public contract names this file: it is for the contracts of the steps within the crate.
use Rattle.std.specs.Prelude.{◌≡◌, Bool, true, false, List, [], ◌∷◌, ◌++◌, length, map, Option, Some, None, Vec}
use Rattle.std.specs.List.{position_or_len}
use Rattle.indexmap.specs.IndexMap.{IndexMap}
use Rattle.vx_tree.specs.declared.bound.BoundExpression.{BoundExpression}
use Rattle.vx_tree.specs.Trees.{BoundTree, scope, node, BoundTrees, no_bound, bound}
use Rattle.vx_tree.specs.Views.{bound_of}
use Rattle.vx_partition_laws.specs.Pieces.{Piece, Group, pieces, each_pieces, pieces_of, annotations_of, grouped}
use Rattle.vx_partition.specs.declared.mark.Mark.{Mark}
use Rattle.vx_partition.specs.declared.mark.Mark.TheVariants.{Kept, Above, Hole}

-- the groups that a map holds
abbrev pub groups_in : {A Z S : Type 0} → IndexMap A (Vec BoundExpression Z) S → List (Group A)
groups_in m = map (λ e. (e.0, map bound_of e.1.items)) m.entries

-- whether there is a piece
abbrev pub has_some : {X : Type 0} → List X → Bool
has_some [] = false
has_some (x ∷ xs) = true

module _ {A : Type 0} (eq : A → A → Bool) where
  -- the pieces by their annotations, in the order in which these first appear
  abbrev pub collected : List (Piece A) → List (Group A)
  collected xs = grouped eq xs (annotations_of eq xs)

  -- the same groups, under equal annotations
  abbrev pub SameGroups : List (Group A) → List (Group A) → Type 0
  SameGroups [] [] = Unit {0}
  SameGroups (g ∷ gs) (h ∷ hs) = (eq g.0 h.0 ≡ true) × (g.1 ≡ h.1) × SameGroups gs hs
  SameGroups _ _ = ⊥

  -- the mark of a piece behind others: the place of its annotation's group, and its own in that group
  abbrev pub hole_mark : List (Piece A) → A → Mark
  hole_mark before a = Hole (position_or_len (eq a) (annotations_of eq before)) (length (pieces_of eq before a))

  -- a piece is marked as a hole, and below it nothing is; where there is none at or below a node, it alone is marked
  abbrev pub marked : Option A → List (Piece A) → List (Piece A) → List Mark → List Mark
  marked (Some a) before below marks = hole_mark before a ∷ []
  marked None before [] marks = Kept ∷ []
  marked None before (x ∷ xs) marks = Above ∷ marks

  -- pieces and marks went behind those that there were, and it was told whether there were pieces
  pub record IsWalked (before found : List (Piece A)) (marks : List Mark) (some : Bool) (old new : List Mark) (gs : List (Group A)) : Type 0 where
    pub told : some ≡ has_some found
    pub noted : new ≡ old ++ marks
    pub groups : SameGroups gs (collected (before ++ found))

  module _ (only : BoundTree → Option A) where
    -- the marks of a tree, where `before` has the pieces to its left
    abbrev mutual
      pub marks_of : List (Piece A) → BoundTree → List Mark
      marks_of before (scope t) = marked (only (scope t)) before [] []
      marks_of before (node t f bs) = marked (only (node t f bs)) before (each_pieces only bs) (marks_of_each before bs)

      pub marks_of_each : List (Piece A) → BoundTrees → List Mark
      marks_of_each before no_bound = []
      marks_of_each before (bound b bs) = marks_of before b ++ marks_of_each (before ++ pieces only b) bs
