-- The fields of the scope that a node reads itself.
use Rattle.std.proofs.Common.{◌≡◌, ◌≢◌, List, [], ◌∷◌, length, refl}
use Rattle.vx_value.specs.Types.{Name}
use Rattle.vx_tree.specs.Views.{bounds_of}
use Rattle.vx_tree.specs.declared.bound.BoundExpression.{BoundExpression}
use Rattle.vx_rewrite_analysis.specs.Fields.{field_of_root}

-- of any other number of children than one there is none
pub field_of_root-other : (a : Name) (ts : List BoundExpression) → length ts ≢ 1 → field_of_root a (bounds_of ts) ≡ []
field_of_root-other a [] h = refl
field_of_root-other a (t ∷ []) h = absurd (h refl)
field_of_root-other a (t ∷ u ∷ ts) h = refl
