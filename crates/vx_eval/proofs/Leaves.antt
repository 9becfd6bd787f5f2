-- Trees that aren't the scope alone.
use Rattle.std.proofs.Common.{◌≡◌, List, [], ◌∷◌, length, refl, false}
use Rattle.vx_tree.specs.declared.bound.BoundExpression.{BoundExpression}
use Rattle.vx_tree.specs.Views.{bounds_of}
use Rattle.vx_eval.specs.Leaves.{is_scope}

pub not_one : (bs : List BoundExpression) → (length bs ≡ 1 → ⊥) → false ≡ is_scope (bounds_of bs)
not_one [] apart = refl
not_one (a ∷ []) apart = absurd (apart refl)
not_one (a ∷ b ∷ bs) apart = refl
