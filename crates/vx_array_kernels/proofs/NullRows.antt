-- Which rows are null.
use Rattle.std.proofs.Common.{◌≡◌, ℕ, ◌<◌, ◌≤◌, zero, suc, List, ◌∷◌, map, length, get_or, refl, sym, ap, ◌∙◌, arith, Bool, true, false, not, Result, Ok, Err}
use Rattle.std.specs.Prelude.{if◌then◌else◌, IfOk}
use Rattle.std.proofs.Math.ListN.{replicate}
use Rattle.std.proofs.lemmas.List.{length-map, ext_get_or, get_or-map}
use Rattle.vx_value.specs.Types.{Datum, null, bool, is_null_datum}
use Rattle.vx_array.specs.declared.validity.Validity.{Validity}
use Rattle.vx_array.specs.Shown.{shown, is_valid, HasRows}
use Rattle.vx_array.proofs.Masked.{get_or-shown, rows_within}
use Rattle.vx_array_kernels.specs.Truths.{null_told, value_told, AreValues, IsNulls, TellsNulls}

-- where no value is null, the validity tells
pub tells_nulls : {A : Type 0} (d : A) (f : A → Datum) → ((x : A) → is_null_datum (f x) ≡ false) → (v : Validity) (xs : List A) (rows : List Datum) → rows ≡ shown v (map f xs) → TellsNulls v rows
tells_nulls d f some v xs rows is = (within.1, at)
  where
    within : (length rows ≤ length xs) × HasRows v (length rows)
    within = rows_within f v xs rows (length rows) is (omega arith)

    told : (b : Bool) (k : ℕ) → k < length xs → is_null_datum (if b then get_or (map f xs) k null else null) ≡ not b
    told true k lt = ap is_null_datum (get_or-map f xs k d null lt) ∙ some (get_or xs k d)
    told false k lt = refl

    at : (k : ℕ) → k < length rows → is_null_datum (get_or rows k null) ≡ not (is_valid v k)
    at k lt = ap (λ l. is_null_datum (get_or l k null)) is ∙ ap is_null_datum (get_or-shown v (map f xs) k) ∙ told (is_valid v k) k (omega (arith, within.0))

twice : (b : Bool) → not (not b) ≡ b
twice true = refl
twice false = refl

-- the rows that aren't null, as bits
pub values_are : (rows : List Datum) (bs : List Bool) (out : List Datum) → AreValues bs rows → out ≡ map bool bs → out ≡ map value_told rows
values_are rows bs out tells is =
    is ∙ ext_get_or null (map bool bs) (map value_told rows) (length-map bs bool ∙ tells.0 ∙ sym (length-map rows value_told))
    (λ k lt. let within : k < length rows = omega (arith, length-map bs bool, tells.0) in
    get_or-map bool bs k false null (omega (arith, tells.0)) ∙ ap bool (sym (twice (get_or bs k false)) ∙ ap not (sym (tells.1 k within))) ∙ sym (get_or-map value_told rows k null null within))

-- and those that are
pub nulls_turned : (rows : List Datum) (bs cs : List Bool) → AreValues bs rows → cs ≡ map not bs → IsNulls cs rows
nulls_turned rows bs cs tells turned = (
  ap length turned ∙ length-map bs not ∙ tells.0,
  λ k lt. ap (λ l. get_or l k false) turned ∙ get_or-map not bs k false false (omega (arith, tells.0)) ∙ sym (tells.1 k lt),
)

pub nulls_are : (rows : List Datum) (bs cs : List Bool) (out : List Datum) → AreValues bs rows → cs ≡ map not bs → out ≡ map bool cs → out ≡ map null_told rows
nulls_are rows bs cs out tells turned is =
    let nulls = nulls_turned rows bs cs tells turned in
    is ∙ ext_get_or null (map bool cs) (map null_told rows) (length-map cs bool ∙ nulls.0 ∙ sym (length-map rows null_told))
    (λ k lt. let within : k < length rows = omega (arith, length-map cs bool, nulls.0) in
    get_or-map bool cs k false null (omega (arith, nulls.0)) ∙ ap bool (nulls.1 k within) ∙ sym (get_or-map null_told rows k null null within))

-- those that a validity tells
pub values_valid : (v : Validity) (rows : List Datum) (bs : List Bool) (n : ℕ) → TellsNulls v rows → length rows ≡ n → length bs ≡ n → ((k : ℕ) → k < n → get_or bs k false ≡ is_valid v k) → AreValues bs rows
values_valid v rows bs n tells wide long each = (long ∙ sym wide, λ k lt. tells.1 k lt ∙ ap not (sym (each k (omega (arith, wide)))))

-- those that a test of each row tells
pub values_made : {E : Type 0} (n : ℕ) (rows : List Datum) (post : ℕ → Bool → Type 0) (r : Result (List Bool) E) → length rows ≡ n → IfOk r (λ bs. length bs ≡ n) → IfOk r (λ bs. (k : ℕ) (x : Bool) → k < n → x ≡ get_or bs k false → post k x) →
    ((k : ℕ) (x : Bool) → k < n → post k x → x ≡ not (is_null_datum (get_or rows k null))) → IfOk r (λ bs. AreValues bs rows)
values_made n rows post (Ok bs) wide long each gives = (
  long ∙ sym wide,
  λ k lt. let within : k < n = omega (arith, wide) in sym (ap not (gives k (get_or bs k false) within (each k (get_or bs k false) within refl)) ∙ twice (is_null_datum (get_or rows k null))),
)
values_made n rows post (Err e) wide long each gives = tt

-- what is made of one value in so many rows
pub map-replicate : {A B : Type 0} (f : A → B) (n : ℕ) (d : A) → map f (replicate n d) ≡ replicate n (f d)
map-replicate f zero d = refl
map-replicate f (suc n) d = ap (λ l. f d ∷ l) (map-replicate f n d)

-- of one value in all rows
pub same_null : (told : Bool) (n : ℕ) (d : Datum) (rows out : List Datum) → rows ≡ replicate n d → told ≡ is_null_datum d → out ≡ replicate n (bool told) → out ≡ map null_told rows
same_null told n d rows out one is made = made ∙ ap (λ b. replicate n (bool b)) is ∙ sym (map-replicate null_told n d) ∙ ap (map null_told) (sym one)

pub same_value : (told : Bool) (n : ℕ) (d : Datum) (rows out : List Datum) → rows ≡ replicate n d → told ≡ not (is_null_datum d) → out ≡ replicate n (bool told) → out ≡ map value_told rows
same_value told n d rows out one is made = made ∙ ap (λ b. replicate n (bool b)) is ∙ sym (map-replicate value_told n d) ∙ ap (map value_told) (sym one)
