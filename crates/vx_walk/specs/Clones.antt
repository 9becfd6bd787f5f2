-- Clones of containers.
use Rattle.std.specs.Prelude.{◌≡◌, List, [], ◌∷◌, refl}
use Rattle.std.specs.List.{AllZip}
use Rattle.std.proofs.Common.{ap, ◌∙◌}
use Rattle.vx_walk.specs.Shapes.{Shape, row, no_part, part, parts, shape_seen, row_seen}

-- clones are alike: their elements lie in the same places, and are seen alike by f
abbrev pub ClonesAreAlike : {C E M : Type 0} → (E → M) → (C → Shape E) → (C → C → Type 0) → Type 0
ClonesAreAlike {C} f shape is_clone = (c d : C) → is_clone c d → shape_seen f (shape d) ≡ shape_seen f (shape c)

module _ {C E M : Type 0} (f : E → M) (shape : C → Shape E) (is_clone : C → C → Type 0) (k : ClonesAreAlike f shape is_clone) where
  -- of lists, place by place
  pub parts_alike : (cs ds : List C) → AllZip is_clone cs ds → row_seen f (parts shape ds) ≡ row_seen f (parts shape cs)
  parts_alike [] [] z = refl
  parts_alike [] (d ∷ ds) z = absurd z
  parts_alike (c ∷ cs) [] z = absurd z
  parts_alike (c ∷ cs) (d ∷ ds) z =
      ap (λ s. part s (row_seen f (parts shape ds))) (k c d z.0) ∙ ap (λ r. part (shape_seen f (shape c)) r) (parts_alike cs ds z.1)

  -- of pairs
  pub pairs_alike : ClonesAreAlike f (λ (p : C × C). row (part (shape p.0) (part (shape p.1) no_part))) (λ (p q : C × C). is_clone p.0 q.0 × is_clone p.1 q.1)
  pairs_alike p q z = ap (λ r. row r) (parts_alike (p.0 ∷ (p.1 ∷ [])) (q.0 ∷ (q.1 ∷ [])) (z.0, (z.1, tt)))
