-- What a tree's own marks fill in is the tree with holes.
use Rattle.std.proofs.Common.{◌≡◌, ℕ, Bool, List, [], ◌∷◌, ◌++◌, length, Option, Some, None, refl, sym, ap, ◌∙◌, append_assoc}
use Rattle.std.specs.List.{position_or_len}
use Rattle.vx_value.specs.Types.{Name, LogicalType}
use Rattle.vx_fn.specs.Functions.{Function}
use Rattle.vx_tree.specs.Trees.{BoundTree, scope, node, BoundTrees, no_bound, bound}
use Rattle.vx_partition_laws.specs.Pieces.{Piece, piece_or, pieces, each_pieces, pieces_of, annotations_of}
use Rattle.vx_partition_laws.specs.Holes.{hole, hole_or, with_holes, each_with_holes}
use Rattle.vx_partition.specs.declared.mark.Mark.{Mark}
use Rattle.vx_partition.specs.Collecting.{marked, marks_of, marks_of_each}
use Rattle.vx_partition.specs.Packing.{hole_at}
use Rattle.vx_partition.specs.Filling.{hole_or_tree, filled, filled_each}

module _ {A : Type 0} (eq : A → A → Bool) (text : A → List ℕ) (name : A → Name) (only : BoundTree → Option A) (s : LogicalType) where
  nothing : {X : Type 0} (xs ys : List X) → xs ++ ys ≡ [] → (xs ≡ []) × (ys ≡ [])
  nothing [] ys e = (refl, e)
  nothing (x ∷ xs) ys e = cc

  -- a tree without pieces is itself
  stays_at : (o : Option A) (before below : List (Piece A)) (b u : BoundTree) → piece_or o b below ≡ [] → (below ≡ [] → u ≡ b) → hole_or eq text name only s o before u ≡ b
  stays_at None before below b u e k = k e
  stays_at (Some a) before below b u e k = cc

  mutual
    stays : (before : List (Piece A)) (b : BoundTree) → pieces only b ≡ [] → with_holes eq text name only s before b ≡ b
    stays before (scope t) e = stays_at (only (scope t)) before [] (scope t) (scope t) e (λ q. refl)
    stays before (node t f bs) e = stays_at (only (node t f bs)) before (each_pieces only bs) (node t f bs) (node t f (each_with_holes eq text name only s before bs)) e (λ q. ap (node t f) (each_stays before bs q))

    each_stays : (before : List (Piece A)) (bs : BoundTrees) → each_pieces only bs ≡ [] → each_with_holes eq text name only s before bs ≡ bs
    each_stays before no_bound e = refl
    each_stays before (bound b bs) e =
        let q = nothing (pieces only b) (each_pieces only bs) e in
        rw (stays before b q.0, each_stays (before ++ pieces only b) bs q.1) refl

  module _ (holes : List (List BoundTree)) (xs : List (Piece A)) where
    -- each piece's hole stands at its place
    abbrev pub IsTable : Type 0
    IsTable = (before after : List (Piece A)) (a : A) (b : BoundTree) → before ++ ((a, b) ∷ after) ≡ xs
        → hole_at holes (position_or_len (eq a) (annotations_of eq before)) (length (pieces_of eq before a)) ≡ Some (hole s (text a) (name a) (length (pieces_of eq before a)))

    module _ (table : IsTable) where
      hole_filled : (before after : List (Piece A)) (a : A) (b : BoundTree) → before ++ ((a, b) ∷ after) ≡ xs
          → hole_or_tree (hole_at holes (position_or_len (eq a) (annotations_of eq before)) (length (pieces_of eq before a))) b ≡ hole s (text a) (name a) (length (pieces_of eq before a))
      hole_filled before after a b is = ap (λ o. hole_or_tree o b) (table before after a b is)

      scope_filled : (o : Option A) (t : LogicalType) (before after : List (Piece A)) (rest : List Mark) → before ++ (piece_or o (scope t) [] ++ after) ≡ xs
          → filled holes (scope t) (marked eq o before [] [] ++ rest) ≡ (hole_or eq text name only s o before (scope t), rest)
      scope_filled None t before after rest is = refl
      scope_filled (Some a) t before after rest is = ap (λ u. (u, rest)) (hole_filled before after a (scope t) is)

      node_filled : (o : Option A) (t : LogicalType) (f : Function) (bs us : BoundTrees) (before after below : List (Piece A)) (ms rest : List Mark) → before ++ (piece_or o (node t f bs) below ++ after) ≡ xs
          → (before ++ (below ++ after) ≡ xs → filled_each holes bs (ms ++ rest) ≡ (us, rest)) → (below ≡ [] → us ≡ bs)
          → filled holes (node t f bs) (marked eq o before below ms ++ rest) ≡ (hole_or eq text name only s o before (node t f us), rest)
      node_filled None t f bs us before after [] ms rest is k same = ap (λ vs. (node t f vs, rest)) (sym (same refl))
      node_filled None t f bs us before after (x ∷ below) ms rest is k same = ap (λ r. (node t f r.0, r.1)) (k is)
      node_filled (Some a) t f bs us before after below ms rest is k same = ap (λ u. (u, rest)) (hole_filled before after a (node t f bs) is)

      mutual
        pub tree_filled : (before after : List (Piece A)) (b : BoundTree) (rest : List Mark) → before ++ (pieces only b ++ after) ≡ xs → filled holes b (marks_of eq only before b ++ rest) ≡ (with_holes eq text name only s before b, rest)
        tree_filled before after (scope t) rest is = scope_filled (only (scope t)) t before after rest is
        tree_filled before after (node t f bs) rest is =
            node_filled (only (node t f bs)) t f bs (each_with_holes eq text name only s before bs) before after (each_pieces only bs) (marks_of_each eq only before bs) rest is
            (λ e. trees_filled before after bs rest e) (λ e. each_stays before bs e)

        pub trees_filled : (before after : List (Piece A)) (bs : BoundTrees) (rest : List Mark) → before ++ (each_pieces only bs ++ after) ≡ xs → filled_each holes bs (marks_of_each eq only before bs ++ rest) ≡ (each_with_holes eq text name only s before bs, rest)
        trees_filled before after no_bound rest is = refl
        trees_filled before after (bound b bs) rest is =
            let whole : before ++ (pieces only b ++ (each_pieces only bs ++ after)) ≡ xs = ap (λ ys. before ++ ys) (sym (append_assoc (pieces only b) (each_pieces only bs) after)) ∙ is in
            let later = marks_of_each eq only (before ++ pieces only b) bs ++ rest in
            let one = tree_filled before (each_pieces only bs ++ after) b later whole in
            let more = trees_filled (before ++ pieces only b) after bs rest (append_assoc before (pieces only b) (each_pieces only bs ++ after) ∙ whole) in
            ap (filled_each holes (bound b bs)) (append_assoc (marks_of eq only before b) (marks_of_each eq only (before ++ pieces only b) bs) rest)
            ∙ ap (λ r. (bound r.0 (filled_each holes bs r.1).0, (filled_each holes bs r.1).1)) one
            ∙ ap (λ r. (bound (with_holes eq text name only s before b) r.0, r.1)) more
