-- What holds of each piece of a tree, and of each piece of each group.
use Rattle.std.proofs.Common.{◌≡◌, Bool, true, false, List, [], ◌∷◌, ◌++◌, Option, Some, None, refl, sym, ap, subst, ◌∙◌, inl, inr}
use Rattle.std.specs.Prelude.{if◌then◌else◌}
use Rattle.std.specs.Cmp.{IsEquivalence}
use Rattle.vx_value.specs.Types.{LogicalType}
use Rattle.vx_fn.specs.Functions.{Function}
use Rattle.vx_dtype.specs.Lists.{IsIn}
use Rattle.vx_tree.specs.Trees.{BoundTree, scope, node, BoundTrees, no_bound, bound}
use Rattle.vx_partition_laws.specs.Pieces.{Piece, Group, piece_or, pieces, each_pieces, pieces_of, annotations_of, grouped}
use Rattle.vx_partition_laws.proofs.Places.{annotation-found}

abbrev pub EachPiece : {A : Type 0} → (BoundTree → Type 0) → List (Piece A) → Type 0
EachPiece P [] = Unit {0}
EachPiece P (x ∷ xs) = P x.1 × EachPiece P xs

abbrev pub EachOf : (BoundTree → Type 0) → List BoundTree → Type 0
EachOf P [] = Unit {0}
EachOf P (b ∷ bs) = P b × EachOf P bs

abbrev pub EachGrouped : {A : Type 0} → (BoundTree → Type 0) → List (Group A) → Type 0
EachGrouped P [] = Unit {0}
EachGrouped P (g ∷ gs) = EachOf P g.1 × EachGrouped P gs

module _ {A : Type 0} (P : BoundTree → Type 0) where
  each_append : (xs ys : List (Piece A)) → EachPiece P xs → EachPiece P ys → EachPiece P (xs ++ ys)
  each_append [] ys p q = q
  each_append (x ∷ xs) ys p q = (p.0, each_append xs ys p.1 q)

  pub each_first : (xs ys : List (Piece A)) → EachPiece P (xs ++ ys) → EachPiece P xs
  each_first [] ys p = tt
  each_first (x ∷ xs) ys p = (p.0, each_first xs ys p.1)

  pub each_second : (xs ys : List (Piece A)) → EachPiece P (xs ++ ys) → EachPiece P ys
  each_second [] ys p = p
  each_second (x ∷ xs) ys p = each_second xs ys p.1

  each_by : (xs : List (Piece A)) → ((x : Piece A) → IsIn x xs → P x.1) → EachPiece P xs
  each_by [] h = tt
  each_by (x ∷ xs) h = (h x (inl refl), each_by xs (λ y i. h y (inr i)))

  module _ (eq : A → A → Bool) where
    of_one : (xs : List (Piece A)) (a : A) → EachPiece P xs → EachOf P (pieces_of eq xs a)
    of_one [] a p = tt
    of_one (x ∷ xs) a p = go (eq a x.0) (of_one xs a p.1)
      where
        go : (t : Bool) → EachOf P (pieces_of eq xs a) → EachOf P (if t then x.1 ∷ pieces_of eq xs a else pieces_of eq xs a)
        go true q = (p.0, q)
        go false q = q

    -- what holds of each piece holds of each one of each group
    pub grouped_each : (xs : List (Piece A)) (cs : List A) → EachPiece P xs → EachGrouped P (grouped eq xs cs)
    grouped_each xs [] p = tt
    grouped_each xs (c ∷ cs) p = (of_one xs c p, grouped_each xs cs p)

    of_this : (xs : List (Piece A)) (cs : List A) (c : A) → EachGrouped P (grouped eq xs cs) → IsIn c cs → EachOf P (pieces_of eq xs c)
    of_this xs [] c p i = absurd i
    of_this xs (d ∷ cs) c p (inl s) = subst (λ a. EachOf P (pieces_of eq xs a)) (sym s) p.0
    of_this xs (d ∷ cs) c p (inr i) = of_this xs cs c p.1 i

    one_of : (xs : List (Piece A)) (c : A) (x : Piece A) → eq c x.0 ≡ true → EachOf P (pieces_of eq xs c) → IsIn x xs → P x.1
    one_of [] c x e p i = absurd i
    one_of (y ∷ xs) c x e p (inl s) = subst (λ z. P z.1) (sym s) (here (eq c y.0) (ap (λ z. eq c z.0) (sym s) ∙ e) p)
      where
        here : (t : Bool) → t ≡ true → EachOf P (if t then y.1 ∷ pieces_of eq xs c else pieces_of eq xs c) → P y.1
        here true q r = r.0
        here false q r = cc
    one_of (y ∷ xs) c x e p (inr i) = one_of xs c x e (later (eq c y.0) p) i
      where
        later : (t : Bool) → EachOf P (if t then y.1 ∷ pieces_of eq xs c else pieces_of eq xs c) → EachOf P (pieces_of eq xs c)
        later true r = r.1
        later false r = r

    -- and the other way round
    pub ungrouped_each : IsEquivalence eq → (xs : List (Piece A)) → EachGrouped P (grouped eq xs (annotations_of eq xs)) → EachPiece P xs
    ungrouped_each laws xs p =
        each_by xs (λ x i. let r = annotation-found eq laws xs x i in one_of xs r.0 x (laws.symm r.0 x.0 ∙ r.2) (of_this xs (annotations_of eq xs) r.0 p r.1) i)

  -- what a node hands to its children comes to its pieces
  module _ (only : BoundTree → Option A) (Ps : BoundTrees → Type 0) (down : (t : LogicalType) (f : Function) (bs : BoundTrees) → P (node t f bs) → Ps bs)
      (first : (b : BoundTree) (bs : BoundTrees) → Ps (bound b bs) → P b) (rest : (b : BoundTree) (bs : BoundTrees) → Ps (bound b bs) → Ps bs) where
    piece_or_has : (o : Option A) (b : BoundTree) (below : List (Piece A)) → P b → EachPiece P below → EachPiece P (piece_or o b below)
    piece_or_has None b below p q = q
    piece_or_has (Some a) b below p q = (p, tt)

    mutual
      pub pieces_have : (b : BoundTree) → P b → EachPiece P (pieces only b)
      pieces_have (scope t) p = piece_or_has (only (scope t)) (scope t) [] p tt
      pieces_have (node t f bs) p = piece_or_has (only (node t f bs)) (node t f bs) (each_pieces only bs) p (each_have bs (down t f bs p))

      pub each_have : (bs : BoundTrees) → Ps bs → EachPiece P (each_pieces only bs)
      each_have no_bound p = tt
      each_have (bound b bs) p = each_append (pieces only b) (each_pieces only bs) (pieces_have b (first b bs p)) (each_have bs (rest b bs p))
