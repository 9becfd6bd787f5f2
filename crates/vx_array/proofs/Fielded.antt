-- Fields of structs by their places.
use Rattle.std.proofs.Common.{◌≡◌, ℕ, ◌<◌, zero, suc, List, [], ◌∷◌, map, length, get_or, refl, sym, ap, ◌∙◌, arith, rules, Bool, true, false, Some, None}
use Rattle.std.specs.Prelude.{position, ◌||◌}
use Rattle.std.specs.Str.{bytes_eq}
use Rattle.std.proofs.lemmas.Bool.{or_left, or_right}
use Rattle.std.proofs.lemmas.List.Quantifiers.{position-Some}
use Rattle.vx_dtype.specs.declared.dtype.DType.{DType, the_lemmas}
use Rattle.vx_dtype.specs.declared.dtype.DType as program
use Rattle.vx_dtype.specs.declared.dtype.StructFields.{StructFields}
use Rattle.vx_dtype.specs.declared.dtype.Nullability.{Nullability}
use Rattle.vx_value.specs.Columns.{first_misfit}
use Rattle.vx_value.specs.Fields.{field_type, field_value}
use Rattle.vx_value.specs.Fits.{Fits}
use Rattle.vx_value.specs.Items.{datum_at, item_at}
use Rattle.vx_value.specs.Types.{Name, LogicalType, ty, struct, Fields, Datum, null, struct_of, Data, no_datum, datum, is_nullable, with_nullability}
use Rattle.vx_value.specs.Views.{type_of, fields_of, fields_view, admits_null}
use Rattle.vx_value.proofs.Fitting.{field_value-fits, fits-wider}
use Rattle.vx_array.specs.Items.{field_at}
use Rattle.vx_array.proofs.Fitting.{made_fits}
use Rattle.vx_array.proofs.Mapped.{map_same}

-- at the first place of a name stands the value of the first field of that name
placed : (a : Name) (names : List Name) (types : List DType) (k : ℕ) → k < length names → k < length types → bytes_eq a (get_or names k []) ≡ true → ((j : ℕ) → j < k → bytes_eq a (get_or names j []) ≡ false) →
    (vs : Data) → field_value a (fields_view names types) vs ≡ datum_at k vs
placed a [] types k named typed here before vs = absurd (omega arith)
placed a (b ∷ names) [] k named typed here before vs = absurd (omega arith)
placed a (b ∷ names) (t ∷ types) zero named typed here before no_datum = refl
placed a (b ∷ names) (t ∷ types) zero named typed here before (datum v vs) = rw here
placed a (b ∷ names) (t ∷ types) (suc k) named typed here before no_datum = refl
placed a (b ∷ names) (t ∷ types) (suc k) named typed here before (datum v vs) =
    let other : bytes_eq a b ≡ false = before 0 (omega arith) in
    rw other (placed a names types k (omega arith) (omega arith) here (λ j lt. before (suc j) (omega arith)) vs)

pub field_placed : (a : Name) (names : List Name) (types : List DType) (fs : Fields) (k : ℕ) → Some k ≡ position (bytes_eq a) names → k < length types → fields_view names types ≡ fs → (vs : Data) → field_value a fs vs ≡ datum_at k vs
field_placed a names types fs k at typed is vs =
    let first = position-Some (bytes_eq a) names k [] (sym at) in
    ap (λ gs. field_value a gs vs) (sym is) ∙ placed a names types k first.0 typed first.1 first.2 vs

-- items are fields
pub items_are : (a : Name) (fs : Fields) (k : ℕ) (rows : List Datum) → ((vs : Data) → field_value a fs vs ≡ datum_at k vs) → map (item_at k) rows ≡ map (field_at a fs) rows
items_are a fs k rows at = map_same (item_at k) (field_at a fs) rows one
  where
    one : (v : Datum) → item_at k v ≡ field_at a fs v
    one (struct_of vs) = sym (at vs)
    one _ = refl

-- a field's value is one of its type, or null where the struct may be null
field_fits : (a : Name) (fs : Fields) (n : Bool) (t : LogicalType) → field_type a fs ≡ Some t → (v : Datum) → Fits v (ty (struct fs) n) → Fits (field_at a fs v) (with_nullability (is_nullable t || n) t)
field_fits a fs n (ty s m) e null h = or_right m n h
field_fits a fs n (ty s m) e (struct_of vs) h = fits-wider (field_value a fs vs) s m (m || n) (or_left m n) (field_value-fits a fs vs (ty s m) e h)
field_fits a fs n (ty s m) e _ h = cc

pub items_fit : (a : Name) (fs : Fields) (k : ℕ) (n : Bool) (t : LogicalType) (rows : List Datum) → ((vs : Data) → field_value a fs vs ≡ datum_at k vs) → field_type a fs ≡ Some t → first_misfit (ty (struct fs) n) rows ≡ None →
    first_misfit (with_nullability (is_nullable t || n) t) (map (item_at k) rows) ≡ None
items_fit a fs k n t rows at e fit =
    ap (first_misfit (with_nullability (is_nullable t || n) t)) (items_are a fs k rows at) ∙ made_fits (ty (struct fs) n) (with_nullability (is_nullable t || n) t) (field_at a fs) rows (field_fits a fs n t e) fit

pub type_of-Struct : (s : StructFields) (n : Nullability) → type_of (program.Struct s n) ≡ ty (struct (fields_of s)) (admits_null n)
type_of-Struct s n = search (rules, the_lemmas)
