-- So many trees, and no other number.
use Rattle.std.proofs.Common.{◌≡◌, ◌≢◌, ◌<◌, List, [], ◌∷◌, length, refl, arith}
use Rattle.std.specs.Prelude.{None}
use Rattle.vx_rewrite_core.specs.Nodes.{only_one, two_of, three_of, first_two}
use Rattle.vx_tree.specs.Views.{bounds_of}
use Rattle.vx_tree.specs.declared.bound.BoundExpression.{BoundExpression}

pub not_one : (xs : List BoundExpression) → length xs ≢ 1 → None ≡ only_one (bounds_of xs)
not_one [] h = refl
not_one (x ∷ []) h = absurd (h refl)
not_one (x ∷ y ∷ xs) h = refl

pub not_two : (xs : List BoundExpression) → length xs ≢ 2 → None ≡ two_of (bounds_of xs)
not_two [] h = refl
not_two (x ∷ []) h = refl
not_two (x ∷ y ∷ []) h = absurd (h refl)
not_two (x ∷ y ∷ z ∷ xs) h = refl

pub not_three : (xs : List BoundExpression) → length xs ≢ 3 → None ≡ three_of (bounds_of xs)
not_three [] h = refl
not_three (x ∷ []) h = refl
not_three (x ∷ y ∷ []) h = refl
not_three (x ∷ y ∷ z ∷ []) h = absurd (h refl)
not_three (x ∷ y ∷ z ∷ v ∷ xs) h = refl

pub fewer_than_two : (xs : List BoundExpression) → length xs < 2 → None ≡ first_two (bounds_of xs)
fewer_than_two [] h = refl
fewer_than_two (x ∷ []) h = refl
fewer_than_two (x ∷ y ∷ xs) h = absurd (omega arith)
