-- Rows that all fit, and one more that does.
use Rattle.std.proofs.Common.{◌≡◌, suc, ◌++◌, Bool, true, false, List, [], ◌∷◌, map, refl, ℕ}
use Rattle.std.specs.Prelude.{Option, Some, None, if◌then◌else◌}
use Rattle.std.specs.Option.{option_map}
use Rattle.vx_value.specs.declared.value.Value.{Value}
use Rattle.vx_value.specs.Types.{LogicalType}
use Rattle.vx_value.specs.Fits.{fits}
use Rattle.vx_value.specs.Columns.{first_misfit}
use Rattle.vx_value.specs.Views.{value_of}

none_cases : (b : Bool) (r : Option ℕ) → (if b then option_map (λ i. suc i) r else Some 0) ≡ None → (b ≡ true) × (r ≡ None)
none_cases true None e = (refl, refl)
none_cases true (Some i) e = cc
none_cases false r e = cc

fits_more : (t : LogicalType) (rows : List Value) (v : Value) → first_misfit t (map value_of rows) ≡ None → fits (value_of v) t ≡ true → first_misfit t (map value_of (rows ++ v ∷ [])) ≡ None
fits_more t [] v e h = rw h
fits_more t (w ∷ rows) v e h =
    let here = none_cases (fits (value_of w) t) _ e in
    rw (here.0, fits_more t rows v here.1 h)

pub fit_after : (t : LogicalType) (rows : List Value) (v : Value) (ok : Bool) (after : List Value) → after ≡ (if ok then rows ++ v ∷ [] else rows)
    → first_misfit t (map value_of rows) ≡ None → fits (value_of v) t ≡ true → first_misfit t (map value_of after) ≡ None
fit_after t rows v true after is e h = rw is (fits_more t rows v e h)
fit_after t rows v false after is e h = rw is e
