-- Lists of the program beside the mirror's own lists.
use Rattle.std.proofs.Common.{◌≡◌, ◌≢◌, ℕ, suc, zero, ◌+◌, ◌<◌, Bool, true, false, Option, Some, None, option_map, List, [], ◌∷◌, length, get_or, refl, ap, arith}
use Rattle.std.specs.Prelude.{if◌then◌else◌}
use Rattle.std.proofs.Math.Bool.{and-false}
use Rattle.vx_value.specs.declared.value.Value.{Value}
use Rattle.vx_value.specs.Types.{LogicalType, Datum, Data, no_datum, datum}
use Rattle.vx_value.specs.Fits.{count, fits, Fits}
use Rattle.vx_value.specs.Columns.{first_misfit}
use Rattle.vx_value.specs.Equality.{equal_data}
use Rattle.vx_value.specs.Views.{data_view}

pub count_view : (vs : List Value) → count (data_view vs) ≡ length vs
count_view [] = refl
count_view (v ∷ vs) = let e = count_view vs in omega arith

equal_data_count : (vs ws : Data) → count vs ≢ count ws → false ≡ equal_data vs ws
equal_data_count no_datum no_datum h = absurd (h refl)
equal_data_count no_datum (datum w ws) h = refl
equal_data_count (datum v vs) no_datum h = refl
equal_data_count (datum v vs) (datum w ws) h = rw (← equal_data_count vs ws (λ e. h (ap (λ n. n + 1) e)), and-false)

pub equal_data_counts : (vs ws : List Value) → length vs ≢ length ws → false ≡ equal_data (data_view vs) (data_view ws)
equal_data_counts vs ws h = equal_data_count (data_view vs) (data_view ws) (λ e. h (rw (← count_view vs, e, count_view)))

none_cases : (b : Bool) (r : Option ℕ) → (if b then option_map (λ i. suc i) r else Some 0) ≡ None → (b ≡ true) × (r ≡ None)
none_cases true None e = (refl, refl)
none_cases true (Some i) e = cc
none_cases false r e = cc

-- where no row is the first that doesn't fit, each one fits
pub fits_at : (t : LogicalType) (vs : List Datum) (k : ℕ) (v : Datum) → first_misfit t vs ≡ None → k < length vs → Fits (get_or vs k v) t
fits_at t [] k v e h = absurd (omega arith)
fits_at t (w ∷ ws) zero v e h = (none_cases (fits w t) _ e).0
fits_at t (w ∷ ws) (suc k) v e h = fits_at t ws k v (none_cases (fits w t) _ e).1 (omega arith)
