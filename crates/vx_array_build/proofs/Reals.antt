-- Floating-point numbers as whole numbers that have their bits.
use Rattle.std.proofs.Common.{◌≡◌, ℕ, ℤ, pos, List, [], ◌∷◌, map, refl, sym, ap, ◌∙◌, rules, Bool, true, false, zero, suc}
use Rattle.std.specs.Prelude.{Option, Some, None, is_some, ⊤, MatchOption}
use Rattle.std.proofs.Math.ListN.{replicate}
use Rattle.vx_dtype.specs.declared.dtype.DType.{DType, the_lemmas as the_types}
use Rattle.vx_dtype.specs.declared.dtype.Nullability.{Nullability}
use Rattle.vx_dtype.specs.declared.float_type.FloatType.{FloatType}
use Rattle.vx_dtype.specs.declared.float_type.FloatType.TheVariants.{F32, F64}
use Rattle.vx_floats.specs.declared.float.Float.{Float}
use Rattle.vx_floats.specs.declared.float.Float.TheVariants as bits
use Rattle.vx_floats.specs.Deciding.{same_float-Decides}
use Rattle.vx_floats.specs.Floats.{canonical, is_canonical}
use Rattle.vx_floats.proofs.Once.{canonical_once}
use Rattle.vx_value.specs.Columns.{first_misfit}
use Rattle.vx_value.specs.Fits.{fits}
use Rattle.vx_value.specs.Types.{ty, atomic, floating, Datum, int, float, is_null_datum}
use Rattle.vx_value.specs.Views.{admits_null, type_of}
use Rattle.vx_array.specs.declared.floats.Floats.{Floats}
use Rattle.vx_array.specs.declared.lanes.Lanes as Kind
use Rattle.vx_array.specs.declared.validity.Validity.{Validity}
use Rattle.vx_array.specs.Kinds.{bits_in, float_of, format_in}
use Rattle.vx_array.specs.Rows.{lanes_rows}
use Rattle.vx_array.specs.Shown.{shown}
use Rattle.vx_array.proofs.Held.{rows-Floats}
use Rattle.vx_array.proofs.Mapped.{map_map, map-shown}
use Rattle.vx_array_build.specs.Built.{shown_by}
use Rattle.vx_array_build.specs.FloatBits.{float_row}

-- what bits stand for, by the numbers that have them
made_of_bits : (f : FloatType) (bs : List ℕ) → map float (map (float_of f) bs) ≡ map (float_row f) (map int (map (λ b. pos b) bs))
made_of_bits f [] = refl
made_of_bits f (b ∷ bs) = ap (λ l. float (float_of f b) ∷ l) (made_of_bits f bs)

-- the rows of lanes of floating-point numbers
pub rows_by_bits : (f : FloatType) (fs : Floats) (v : Validity) (zs : List ℤ) → format_in fs ≡ f → map (λ b. pos b) (bits_in fs) ≡ zs → lanes_rows (Kind.Floats fs v) ≡ shown v (map (float_row f) (map int zs))
rows_by_bits f fs v zs is are =
    rows-Floats fs v ∙ ap (λ g. shown v (map float (map (float_of g) (bits_in fs)))) is ∙ ap (shown v) (made_of_bits f (bits_in fs)) ∙ ap (λ l. shown v (map (float_row f) (map int l))) are

-- those of each bit, one by one
pub rows_of_each : (f : FloatType) (fs : Floats) (v : Validity) (zs : List ℤ) → format_in fs ≡ f → map (λ b. pos b) (bits_in fs) ≡ zs → lanes_rows (Kind.Floats fs v) ≡ shown v (map (λ z. float_row f (int z)) zs)
rows_of_each f fs v zs is are = rows_by_bits f fs v zs is are ∙ ap (shown v) (map_map (float_row f) int zs)

-- those of the numbers that are shown
pub rows_over : (f : FloatType) (fs : Floats) (v : Validity) (zs : List ℤ) → format_in fs ≡ f → map (λ b. pos b) (bits_in fs) ≡ zs → lanes_rows (Kind.Floats fs v) ≡ map (float_row f) (shown v (map int zs))
rows_over f fs v zs is are = rows_by_bits f fs v zs is are ∙ sym (map-shown (float_row f) v (map int zs) refl)

-- ---- arrays

pub float_typed : (f : FloatType) (n : Nullability) (v : Option Validity) → admits_null n ≡ is_some v → type_of (DType.Float f n) ≡ ty (atomic (floating f)) (is_some v)
float_typed f n v so = let t : type_of (DType.Float f n) ≡ ty (atomic (floating f)) (admits_null n) = search (rules, the_types) in t ∙ ap (ty (atomic (floating f))) so

pub floats_are : (f : FloatType) (fs : Floats) (zs : List ℤ) (w : Validity) (v : Option Validity) → format_in fs ≡ f → map (λ b. pos b) (bits_in fs) ≡ zs → ((ds : List Datum) → shown w ds ≡ shown_by v ds) → lanes_rows (Kind.Floats fs w) ≡ shown_by v (map (float_row f) (map int zs))
floats_are f fs zs w v is are so = rows_by_bits f fs w zs is are ∙ so (map (float_row f) (map int zs))

-- each is a value of its type
one_fits : (f : FloatType) (b : ℕ) → fits (float (float_of f b)) (ty (atomic (floating f)) false) ≡ true
one_fits F32 b = canonical_once (bits.F32 b)
one_fits F64 b = canonical_once (bits.F64 b)

all_fit : (f : FloatType) (bs : List ℕ) → first_misfit (ty (atomic (floating f)) false) (map (float_row f) (map int (map (λ b. pos b) bs))) ≡ None
all_fit f [] = refl
all_fit f (b ∷ bs) =
    let here : fits (float (float_of f b)) (ty (atomic (floating f)) false) ≡ true = one_fits f b in
    rw (here, all_fit f bs)

pub floats_fit : (f : FloatType) (bs : List ℕ) (zs : List ℤ) → map (λ b. pos b) bs ≡ zs → first_misfit (ty (atomic (floating f)) false) (map (float_row f) (map int zs)) ≡ None
floats_fit f bs zs are = ap (λ l. first_misfit (ty (atomic (floating f)) false) (map (float_row f) (map int l))) (sym are) ∙ all_fit f bs

-- ---- single values

-- a number that is no NaN but the quiet one is the one of its bits
pub own_bits : (x : Float) → is_canonical x ≡ true → canonical x ≡ x
own_bits x is = (same_float-Decides (canonical x) x).0 is

-- the number in a narrower type
pub narrowed_float : {A : Type 0} (number : A → ℤ) (within : ℤ → Bool) (f : FloatType) (b : ℕ) (x : Float) (d : Datum) (r : Option A) → float_of f b ≡ x → d ≡ float x → MatchOption r (within (pos b) ≡ false) (λ y. number y ≡ pos b) →
    MatchOption r ⊤ (λ y. is_null_datum d ≡ false → float_row f (int (number y)) ≡ d)
narrowed_float number within f b x d (Some y) held is told = λ _. ap (λ z. float_row f (int z)) told ∙ ap float held ∙ sym is
narrowed_float number within f b x d None held is told = tt

-- what is made of one value in so many rows
pub map-replicate : {A B : Type 0} (h : A → B) (n : ℕ) (d : A) → map h (replicate n d) ≡ replicate n (h d)
map-replicate h zero d = refl
map-replicate h (suc n) d = ap (λ l. h d ∷ l) (map-replicate h n d)

-- ---- numbers that have bits of their own

pub of_natives : {A : Type 0} (f : FloatType) (bits : A → ℕ) (xs : List A) → map (float_row f) (map int (map (λ b. pos b) (map bits xs))) ≡ map (λ x. float (float_of f (bits x))) xs
of_natives f bits [] = refl
of_natives f bits (x ∷ xs) = ap (λ l. float (float_of f (bits x)) ∷ l) (of_natives f bits xs)
