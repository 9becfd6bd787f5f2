-- One more child is filled; and what is filled by a tree's own marks is the tree with holes.
use Rattle.std.proofs.Common.{◌≡◌, ℕ, zero, suc, Option, Some, None, Vec, slice_get, map, ◌+◌, ◌<◌, ◌≤◌, List, [], ◌∷◌, ◌++◌, length, get_or, drop, drop_of_length-le, refl, sym, ap, ◌∙◌}
use Rattle.vx_tree.specs.declared.bound.BoundExpression.{BoundExpression}
use Rattle.vx_tree.specs.Trees.{BoundTree, BoundTrees, no_bound, bound}
use Rattle.vx_tree.specs.Views.{bound_of, bounds_of}
use Rattle.vx_partition.specs.declared.mark.Mark.{Mark}
use Rattle.vx_partition.specs.Filling.{filled, filled_each, holes_seen}
use Rattle.vx_partition.specs.Packing.{hole_at}
use Rattle.vx_partition.proofs.Collecting.{bounds_next}
use Rattle.vx_partition.proofs.Finding.{copied_seen, copied_at}
use Rattle.std.specs.Option.{option_map}
use Rattle.std.specs.Borrow.{Bor}
use Rattle.std.specs.Slice.{IsItemAt}
use Rattle.std.proofs.lemmas.Option.{slice_get-map}

-- trees that were made, and then others
abbrev pub joined_with : List BoundExpression → BoundTrees → BoundTrees
joined_with [] bs = bs
joined_with (b ∷ made) bs = bound (bound_of b) (joined_with made bs)

pub with_last : (made : List BoundExpression) (b : BoundExpression) (bs : BoundTrees) → joined_with (made ++ b ∷ []) bs ≡ joined_with made (bound (bound_of b) bs)
with_last [] b bs = refl
with_last (x ∷ made) b bs = ap (bound (bound_of x)) (with_last made b bs)

pub with_none : (made : List BoundExpression) → joined_with made no_bound ≡ bounds_of made
with_none [] = refl
with_none (x ∷ made) = ap (bound (bound_of x)) (with_none made)

module _ (holes : List (List BoundTree)) where
  -- what is made so far, and what the rest gives from the marks that are left
  abbrev pub FilledSo : List BoundExpression → List BoundExpression → ℕ → List Mark → List Mark → Type 0
  FilledSo made es i old marks =
      filled_each holes (bounds_of es) old ≡ (joined_with made (filled_each holes (bounds_of (drop i es)) marks).0, (filled_each holes (bounds_of (drop i es)) marks).1)

  pub fills_on : (made new es : List BoundExpression) (i : ℕ) (e u : BoundExpression) (old marks left : List Mark) → i < length es → e ≡ get_or es i e → new ≡ made ++ u ∷ []
      → filled holes (bound_of e) marks ≡ (bound_of u, left) → FilledSo made es i old marks → FilledSo new es (i + 1) old left
  fills_on made new es i e u old marks left h is put one so =
      let rest = bounds_of (drop (i + 1) es) in
      so ∙ ap (λ bs. (joined_with made (filled_each holes bs marks).0, (filled_each holes bs marks).1)) (bounds_next es i e h is)
      ∙ ap (λ r. (joined_with made (bound r.0 (filled_each holes rest r.1).0), (filled_each holes rest r.1).1)) one
      ∙ ap (λ bs. (bs, (filled_each holes rest left).1)) (sym (with_last made u (filled_each holes rest left).0))
      ∙ ap (λ us. (joined_with us (filled_each holes rest left).0, (filled_each holes rest left).1)) (sym put)

  pub fills_end : (made es : List BoundExpression) (i : ℕ) (old marks : List Mark) → length es ≤ i → FilledSo made es i old marks → filled_each holes (bounds_of es) old ≡ (bounds_of made, marks)
  fills_end made es i old marks h so =
      so ∙ rw (drop_of_length-le es h) (ap (λ bs. (bs, marks)) (with_none made))

-- ---- the hole at a place

abbrev in_group : {Z : Type 0} → Option (Vec BoundExpression Z) → ℕ → Option BoundTree
in_group None i = None
in_group (Some v) i = slice_get (map bound_of v.items) i

hole_found : {Z : Type 0} (holes : List (Vec BoundExpression Z)) (g i : ℕ) → hole_at (holes_seen holes) g i ≡ in_group (slice_get holes g) i
hole_found [] g i = refl
hole_found (v ∷ holes) zero i = refl
hole_found (v ∷ holes) (suc g) i = hole_found holes g i

pub hole_there : {Z : Type 0} (holes : List (Vec BoundExpression Z)) (g i : ℕ) (v : Vec BoundExpression Z) (xs : List BoundExpression) (r : Option (Bor BoundExpression)) → Some v ≡ slice_get holes g → xs ≡ v.items → IsItemAt xs i r
    → option_map (λ b. bound_of b.now) r ≡ hole_at (holes_seen holes) g i
hole_there holes g i v xs r at is item =
    sym (copied_seen r) ∙ ap (option_map bound_of) (copied_at xs i r item ∙ ap (λ l. slice_get l i) is) ∙ sym (slice_get-map bound_of v.items i)
    ∙ ap (λ o. in_group o i) at ∙ sym (hole_found holes g i)

pub hole_missing : {Z : Type 0} (holes : List (Vec BoundExpression Z)) (g i : ℕ) → None ≡ slice_get holes g → None ≡ hole_at (holes_seen holes) g i
hole_missing holes g i at = ap (λ o. in_group o i) at ∙ sym (hole_found holes g i)
