-- The annotations that a walk meets at one more child, and at a node.
use Rattle.std.proofs.Common.{◌≡◌, ℕ, ◌+◌, ◌<◌, ◌≤◌, Bor, false, List, [], ◌∷◌, ◌++◌, length, map, get_or, drop, Option, Some, None, refl, sym, ap, ◌∙◌, append_assoc, append-nil}
use Rattle.std.specs.Prelude.{is_some}
use Rattle.std.specs.Option.{option_copied}
use Rattle.std.proofs.lemmas.List.{map-append}
use Rattle.vx_fn.specs.Functions.{Function}
use Rattle.vx_value.specs.Types.{LogicalType}
use Rattle.vx_tree.specs.declared.bound.BoundExpression.{BoundExpression}
use Rattle.vx_tree.specs.Trees.{BoundTree, scope, node, BoundTrees}
use Rattle.vx_tree.specs.Views.{bound_of, bounds_of}
use Rattle.vx_partition.specs.Only.{annotations_met, annotations_met_in}
use Rattle.vx_partition.proofs.Collecting.{bounds_next, bounds_end}

module _ {A : Type 0} (only : BoundTree → Option A) where
  -- what was met so far, and what is met at the children that are left, is what was met before and at all of them
  pub meets_next : (es : List BoundExpression) (i : ℕ) (e : BoundExpression) (old so_far new : List (Option A)) → i < length es → e ≡ get_or es i e → new ≡ so_far ++ annotations_met only (bound_of e)
      → so_far ++ annotations_met_in only (bounds_of (drop i es)) ≡ old → new ++ annotations_met_in only (bounds_of (drop (i + 1) es)) ≡ old
  meets_next es i e old so_far new h is put inv =
      let below = annotations_met_in only (bounds_of (drop (i + 1) es)) in
      ap (λ ms. ms ++ below) put ∙ append_assoc so_far (annotations_met only (bound_of e)) below ∙ ap (λ bs. so_far ++ annotations_met_in only bs) (sym (bounds_next es i e h is)) ∙ inv

  pub meets_end : (es : List BoundExpression) (i : ℕ) (old so_far : List (Option A)) → length es ≤ i → so_far ++ annotations_met_in only (bounds_of (drop i es)) ≡ old → so_far ≡ old
  meets_end es i old so_far h inv = sym (append-nil so_far) ∙ ap (λ bs. so_far ++ annotations_met_in only bs) (sym (bounds_end es i h)) ∙ inv

  -- at a node with one annotation that alone is met
  pub met_one : (b : BoundTree) (a : A) → only b ≡ Some a → annotations_met only b ≡ Some a ∷ []
  met_one (scope t) a e = rw e refl
  met_one (node t f bs) a e = rw e refl

  pub met_scope : (b : BoundTree) (t : LogicalType) → b ≡ scope t → only b ≡ None → annotations_met only b ≡ None ∷ []
  met_scope b t is e = let none : only (scope t) ≡ None = ap only (sym is) ∙ e in rw is (rw none refl)

  pub met_node : (b : BoundTree) (t : LogicalType) (f : Function) (bs : BoundTrees) → b ≡ node t f bs → only b ≡ None → annotations_met only b ≡ None ∷ annotations_met_in only bs
  met_node b t f bs is e = let none : only (node t f bs) ≡ None = ap only (sym is) ∙ e in rw is (rw none refl)

  -- so a scope root and a node with none put what is met behind what there was
  pub meets_scope : (b : BoundTree) (t : LogicalType) (old new : List (Option A)) → b ≡ scope t → only b ≡ None → new ≡ old ++ None ∷ [] → new ≡ old ++ annotations_met only b
  meets_scope b t old new is e put = put ∙ ap (λ ms. old ++ ms) (sym (met_scope b t is e))

  pub meets_node : (b : BoundTree) (t : LogicalType) (f : Function) (bs : BoundTrees) (old mid new : List (Option A)) → b ≡ node t f bs → only b ≡ None → mid ≡ old ++ None ∷ [] → new ≡ mid ++ annotations_met_in only bs → new ≡ old ++ annotations_met only b
  meets_node b t f bs old mid new is e put below = below ∙ ap (λ ms. ms ++ annotations_met_in only bs) put ∙ append_assoc old (None ∷ []) (annotations_met_in only bs) ∙ ap (λ ms. old ++ ms) (sym (met_node b t f bs is e))

pub none_copied : {A : Type 0} (o : Option (Bor A)) → is_some o ≡ false → option_copied o ≡ None
none_copied None h = refl
none_copied (Some a) h = cc

pub copied_put : {A : Type 0} (old new : List (Option (Bor A))) (o : Option (Bor A)) (copy : Option A) → option_copied o ≡ copy → new ≡ old ++ o ∷ [] → map option_copied new ≡ map option_copied old ++ copy ∷ []
copied_put old new o copy e put = ap (map option_copied) put ∙ map-append option_copied old (o ∷ []) ∙ ap (λ c. map option_copied old ++ c ∷ []) e

-- ---- the next annotation that is met

module _ {A : Type 0} (only : BoundTree → Option A) where
  met_head : (b : BoundTree) (rest : List (Option A)) → (after : List (Option A)) × (annotations_met only b ++ rest ≡ only b ∷ after)
  met_head b rest = go (only b) refl
    where
      go : (o : Option A) → only b ≡ o → (after : List (Option A)) × (annotations_met only b ++ rest ≡ only b ∷ after)
      go (Some a) e = (rest, rw (met_one only b a e, e) refl)
      go None e = first b e
        where
          first : (b : BoundTree) → only b ≡ None → (after : List (Option A)) × (annotations_met only b ++ rest ≡ only b ∷ after)
          first (scope t) n = (rest, rw n refl)
          first (node t f bs) n = (annotations_met_in only bs ++ rest, rw n refl)

  module _ (ms left : List (Option A)) (o : Option A) (next : (p : Option A) (rest : List (Option A)) → ms ≡ p ∷ rest → (o ≡ p) × (left ≡ rest)) where
    -- it is the node's
    pub met_here : (b : BoundTree) (rest : List (Option A)) → ms ≡ annotations_met only b ++ rest → only b ≡ o
    met_here b rest h = let head = met_head b rest in sym (next (only b) head.0 (h ∙ head.1)).0

    -- and where the node has none, those of its children are left
    pub left_below : (b : BoundTree) (t : LogicalType) (f : Function) (bs : BoundTrees) (rest : List (Option A)) → b ≡ node t f bs → o ≡ None → ms ≡ annotations_met only b ++ rest → left ≡ annotations_met_in only bs ++ rest
    left_below b t f bs rest is none h =
        let here = met_here b rest h ∙ none in
        (next None (annotations_met_in only bs ++ rest) (h ∙ ap (λ xs. xs ++ rest) (met_node only b t f bs is here))).1
