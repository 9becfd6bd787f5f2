-- Rows that are values of a type, out of vectors.
use Rattle.std.proofs.Common.{◌≡◌, ℕ, ◌<◌, zero, suc, List, [], ◌∷◌, map, length, get_or, refl, sym, ap, ◌∙◌, arith, Bool, true, false, ℤ, pos, ⊎_elim}
use Rattle.std.specs.Prelude.{if◌then◌else◌, Option, Some, None, is_some}
use Rattle.std.proofs.Math.ListN.{replicate}
use Rattle.std.proofs.lemmas.Bool.{cases_lt}
use Rattle.std.specs.Option.{option_map}
use Rattle.std.proofs.lemmas.List.{get_or_past, length-map}
use Rattle.vx_dtype.specs.declared.dtype.DType.{DType}
use Rattle.vx_dtype.specs.declared.dtype.PType.{PType}
use Rattle.vx_value.specs.Types.{LogicalType, ty, Shape, atomic, truth, number, floating, decimals, date, timestamp, text, octets, list, fixed, struct, Datum, null, bool, int, utf8, bytes}
use Rattle.vx_value.specs.Fits.{fits, Fits, fits_ptype}
use Rattle.vx_value.specs.Columns.{batch, first_misfit}
use Rattle.vx_value.specs.Views.{type_of}
use Rattle.vx_value.proofs.Fitting.{fits-wider}
use Rattle.vx_value.proofs.Lists.{fits_at}
use Rattle.vx_array.specs.declared.lanes.Lanes.{Lanes}
use Rattle.vx_array.specs.declared.validity.Validity.{Validity}
use Rattle.vx_array.specs.Rows.{lanes_rows}
use Rattle.vx_array.specs.Shown.{is_valid, shown}
use Rattle.vx_array.proofs.Masked.{get_or-shown}
use Rattle.vx_array_build.specs.Built.{shown_by, column_by}
use Rattle.vx_array_build.specs.Lanes.{lane_of}

-- each row is a value of the type
pub no_misfits : (t : LogicalType) (rows : List Datum) → ((k : ℕ) → k < length rows → Fits (get_or rows k null) t) → first_misfit t rows ≡ None
no_misfits t [] h = refl
no_misfits t (v ∷ rows) h =
    let here : fits v t ≡ true = h 0 (omega arith) in
    rw (here, no_misfits t rows (λ k lt. h (suc k) (omega arith)))

-- values of a type, of which some may be null
pub shown_fit : (s : Shape) (v : Option Validity) (ds : List Datum) → first_misfit (ty s false) ds ≡ None → first_misfit (ty s (is_some v)) (shown_by v ds) ≡ None
shown_fit s None ds e = e
shown_fit s (Some v) ds e = no_misfits (ty s true) (shown v ds) (λ k lt. at k (is_valid v k) refl)
  where
    value_fits : (k : ℕ) → Fits (get_or ds k null) (ty s true)
    value_fits k = ⊎_elim (λ lt. fits-wider (get_or ds k null) s false true (λ _. refl) (fits_at (ty s false) ds k null e lt)) (λ past. ap (λ d. fits d (ty s true)) (get_or_past ds k null past)) (cases_lt k (length ds))

    at : (k : ℕ) (b : Bool) → is_valid v k ≡ b → Fits (get_or (shown v ds) k null) (ty s true)
    at k true valid = ap (λ d. fits d (ty s true)) (get_or-shown v ds k ∙ ap (λ b. if b then get_or ds k null else null) valid) ∙ value_fits k
    at k false invalid = ap (λ d. fits d (ty s true)) (get_or-shown v ds k ∙ ap (λ b. if b then get_or ds k null else null) invalid)

-- lanes that show such values
pub made_fit : (dtype : DType) (lanes : Lanes) (s : Shape) (v : Option Validity) (ds : List Datum) → type_of dtype ≡ ty s (is_some v) → lanes_rows lanes ≡ shown_by v ds → first_misfit (ty s false) ds ≡ None → first_misfit (type_of dtype) (lanes_rows lanes) ≡ None
made_fit dtype lanes s v ds typed rows fit = ap (λ u. first_misfit u (lanes_rows lanes)) typed ∙ ap (first_misfit (ty s (is_some v))) rows ∙ shown_fit s v ds fit

pub made_is : (dtype : DType) (lanes : Lanes) (s : Shape) (v : Option Validity) (ds : List Datum) → type_of dtype ≡ ty s (is_some v) → lanes_rows lanes ≡ shown_by v ds → column_by s v ds ≡ batch (type_of dtype) (lanes_rows lanes)
made_is dtype lanes s v ds typed rows = sym (ap (λ u. batch u (lanes_rows lanes)) typed ∙ ap (batch (ty s (is_some v))) rows)

-- ---- values of each kind

-- a number of the width in which a type's rows lie is one of its values
lane_fits : (s : Shape) (p : PType) (z : ℤ) → lane_of s ≡ Some p → fits (int z) (ty s false) ≡ fits_ptype z p
lane_fits (atomic (number q)) p z is = cc
lane_fits (atomic date) p z is = cc
lane_fits (atomic (timestamp u o)) p z is = cc
lane_fits (atomic truth) p z is = cc
lane_fits (atomic (floating f)) p z is = cc
lane_fits (atomic (decimals q r)) p z is = cc
lane_fits (atomic text) p z is = cc
lane_fits (atomic octets) p z is = cc
lane_fits (list t) p z is = cc
lane_fits (fixed t k) p z is = cc
lane_fits (struct fs) p z is = cc

pub numbers_fit : (s : Shape) (p : PType) (zs : List ℤ) → lane_of s ≡ Some p → ((k : ℕ) → k < length zs → fits_ptype (get_or zs k (pos 0)) p ≡ true) → first_misfit (ty s false) (map int zs) ≡ None
numbers_fit s p [] is h = refl
numbers_fit s p (z ∷ zs) is h =
    let here : fits (int z) (ty s false) ≡ true = lane_fits s p z is ∙ h 0 (omega arith) in
    rw (here, numbers_fit s p zs is (λ k lt. h (suc k) (omega arith)))

pub truths_fit : (bs : List Bool) → first_misfit (ty (atomic truth) false) (map bool bs) ≡ None
truths_fit [] = refl
truths_fit (b ∷ bs) = ap (option_map (λ i. suc i)) (truths_fit bs)

pub texts_fit : {A : Type 0} (f : A → List ℕ) (xs : List A) → first_misfit (ty (atomic text) false) (map (λ x. utf8 (f x)) xs) ≡ None
texts_fit f [] = refl
texts_fit f (x ∷ xs) = ap (option_map (λ i. suc i)) (texts_fit f xs)

pub octets_fit : {A : Type 0} (f : A → List ℕ) (xs : List A) → first_misfit (ty (atomic octets) false) (map (λ x. bytes (f x)) xs) ≡ None
octets_fit f [] = refl
octets_fit f (x ∷ xs) = ap (option_map (λ i. suc i)) (octets_fit f xs)

-- one value in all rows
pub same_fit : (t : LogicalType) (v : Datum) (n : ℕ) → Fits v t → first_misfit t (replicate n v) ≡ None
same_fit t v zero fit = refl
same_fit t v (suc n) fit =
    let here : fits v t ≡ true = fit in
    rw (here, same_fit t v n fit)

-- numbers that were seen to be some of their type
pub range_seen : {A : Type 0} (f : A → ℤ) (within : ℤ → Bool) (s : Shape) (p : PType) (xs ys : List A) → lane_of s ≡ Some p → ys ≡ xs → ((z : ℤ) → within z ≡ fits_ptype z p) → ((k : ℕ) → k < length ys → within (get_or (map f ys) k (pos 0)) ≡ true) →
    first_misfit (ty s false) (map int (map f xs)) ≡ None
range_seen f within s p xs ys lane is same seen =
    numbers_fit s p (map f xs) lane (λ k lt. sym (same (get_or (map f xs) k (pos 0))) ∙ ap (λ l. within (get_or (map f l) k (pos 0))) (sym is) ∙ seen k (omega (arith, ap length is, length-map xs f)))
