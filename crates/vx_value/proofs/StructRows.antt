-- Columns out of whose rows structs are made.
use Rattle.std.proofs.Common.{◌≡◌, ℕ, ◌+◌, ◌<◌, List, [], ◌∷◌, ◌++◌, map, length, get_or, refl, sym, ap, ◌∙◌, arith, zero, suc, true, Bool, rules, vec_len}
use Rattle.std.specs.Prelude.{◌==◌, ◌⊎◌, None, Result, Ok, Err, IfOk, MatchResult}
use Rattle.std.specs.declared.alloc.AllocError.{AllocError}
use Rattle.std.specs.List.{AllZip, range_with_len}
use Rattle.std.proofs.Common.{inl, inr}
use Rattle.std.proofs.lemmas.Bool.{and_parts, and_from, eqb-true}
use Rattle.std.proofs.lemmas.List.{map-append, get_or-map, ext_get_or, length-map}
use Rattle.std.proofs.lemmas.List.Elements.{All-nil, All-cons, All-head, All-tail}
use Rattle.std.proofs.lemmas.List.FromFn.{map-range_with_len_more, length-map-range_with_len, get_or-map-range_with_len}
use Rattle.std.specs.Global.{Vec}
use Rattle.vx_dtype.specs.declared.dtype.DType.{DType, the_lemmas as the_types}
use Rattle.vx_dtype.specs.declared.dtype.DType.TheVariants as DType
use Rattle.vx_dtype.specs.declared.dtype.Nullability.{Nullability}
use Rattle.vx_dtype.specs.declared.dtype.StructFields.{StructFields}
use Rattle.vx_value.specs.declared.value.Value.{Value}
use Rattle.vx_value.specs.Types.{Name, LogicalType, ty, struct, Datum, null, struct_of}
use Rattle.vx_value.specs.Fields.{data_of, fields_named}
use Rattle.vx_value.specs.Fits.{Fits, IsBatch, EachFits}
use Rattle.vx_dtype.specs.Lists.{forall2_nil, forall2_cons}
use Rattle.vx_value.specs.Views.{admits_null, fields_of, type_of, value_of}
use Rattle.vx_value.specs.Columns.{Batch, first_misfit}
use Rattle.vx_value.specs.StructColumns.{rows_in, types_in, EachFit, all_long, HaveRow, row_at, struct_at, struct_rows, struct_type}
use Rattle.vx_value.proofs.Fitting.{pack-fits}
use Rattle.vx_value.proofs.Lists.{fits_at}
use Rattle.vx_value.proofs.Misfits.{no_misfit}

-- clones, one after another, stand for what their sources do
pub clones_alike : (vs ws : List Value) → AllZip (λ v w. value_of w ≡ value_of v) vs ws → map value_of ws ≡ map value_of vs
clones_alike [] [] h = refl
clones_alike (v ∷ vs) (w ∷ ws) h = let rest = clones_alike vs ws h.1 in let first : value_of w ≡ value_of v = h.0 in cc
clones_alike [] (w ∷ ws) h = absurd h
clones_alike (v ∷ vs) [] h = absurd h

-- a clone of rows, whatever is said where there is none
pub cloned_rows : (rows : Vec Value) (r : Result (Vec Value) AllocError) (E : AllocError → Type 0) → MatchResult r (λ values. AllZip (λ v w. value_of w ≡ value_of v) rows.items values.items × (vec_len values ≡ vec_len rows)) E → IfOk r (λ values. map value_of values.items ≡ map value_of rows.items)
cloned_rows rows (Ok values) E h = clones_alike rows.items values.items h.0
cloned_rows rows (Err e) E h = tt

-- what is owned is the rows, or a clone of them
pub owned_rows : (rows : Vec Value) (r : Result (Vec Value) AllocError) → IfOk r (λ values. (values ≡ rows) ⊎ (AllZip (λ v w. value_of w ≡ value_of v) rows.items values.items × (vec_len values ≡ vec_len rows))) → IfOk r (λ values. map value_of values.items ≡ map value_of rows.items)
owned_rows rows (Ok values) (inl e) = ap (λ (v : Vec Value). map value_of v.items) e
owned_rows rows (Ok values) (inr h) = clones_alike rows.items values.items h.0
owned_rows rows (Err e) h = tt

-- ---- the struct of a row

-- one more struct, of the loop's row
pub struct_pushed : (columns : List (List Datum)) (out new : List Value) (i : ℕ) (v : Value) → map value_of out ≡ struct_rows i columns → new ≡ out ++ v ∷ [] → value_of v ≡ struct_at columns i → map value_of new ≡ struct_rows (i + 1) columns
struct_pushed columns out new i v so_far pushed here =
    ap (map value_of) pushed ∙ map-append value_of out (v ∷ []) ∙ ap (λ ds. ds ++ value_of v ∷ []) so_far
    ∙ ap (λ d. struct_rows i columns ++ d ∷ []) here ∙ sym (map-range_with_len_more (struct_at columns) 0 i i (omega arith))

-- ---- columns that are as long as they should be, and whose rows fit

abbrev IsLong : ℕ → List Datum → Type 0
IsLong k rows = k < length rows

abbrev RowsFit : Batch → Type 0
RowsFit c = first_misfit c.type c.rows ≡ None

pub rows_there : (n : ℕ) (cs : List Batch) → all_long n cs ≡ true → (k : ℕ) → k < n → HaveRow k (rows_in cs)
rows_there n [] e k h = All-nil (IsLong k)
rows_there n (c ∷ cs) e k h =
    let parts = and_parts (length c.rows == n) (all_long n cs) e in
    let here : length c.rows ≡ n = eqb-true (length c.rows) n parts.0 in
    All-cons (IsLong k) c.rows (rows_in cs) (omega arith) (rows_there n cs parts.1 k h)

row_fits : (cs : List Batch) (k : ℕ) → EachFit cs → HaveRow k (rows_in cs) → EachFits (row_at k (rows_in cs)) (types_in cs)
row_fits [] k fit h = forall2_nil
row_fits (c ∷ cs) k fit h =
    forall2_cons (fits_at c.type c.rows k null (All-head RowsFit c cs fit) (All-head (IsLong k) c.rows (rows_in cs) h))
    (row_fits cs k (All-tail RowsFit c cs fit) (All-tail (IsLong k) c.rows (rows_in cs) h))

each_fits : (t : LogicalType) (f : ℕ → Datum) (a n : ℕ) → ((k : ℕ) → k < a + n → Fits (f k) t) → IsBatch t (map f (range_with_len a n))
each_fits t f a zero h = refl
each_fits t f a (suc n) h = and_from _ _ (h a (omega arith)) (each_fits t f (a + 1) n (λ k lt. h k (omega arith)))

-- the structs are of the struct type
pub structs_fit : (names : List Name) (cs : List Batch) (n : ℕ) (nullable : Bool) → length names ≡ length cs → EachFit cs → all_long n cs ≡ true → first_misfit (struct_type names cs nullable) (struct_rows n (rows_in cs)) ≡ None
structs_fit names cs n nullable named fit long =
    let t = struct_type names cs nullable in
    let many : length (types_in cs) ≡ length names = length-map cs (λ (c : Batch). c.type) ∙ sym named in
    let one : (k : ℕ) → k < 0 + n → Fits (struct_at (rows_in cs) k) t = λ k lt. pack-fits names many (row_fits cs k fit (rows_there n cs long k (omega arith))) in
    (no_misfit t (struct_rows n (rows_in cs))).1 (each_fits t (struct_at (rows_in cs)) 0 n one)

-- ---- for those who join columns

-- row k of the joined columns is the struct of their rows k
pub struct_row : (n : ℕ) (columns : List (List Datum)) (k : ℕ) → k < n → get_or (struct_rows n columns) k null ≡ struct_at columns k
struct_row n columns k lt = get_or-map-range_with_len (struct_at columns) 0 n k k null lt (omega arith)

-- where the columns' rows k are what f gives of item k of a list, the structs are those of what f gives
pub struct_rows-each : {A : Type 0} (f : A → List Datum) (columns : List (List Datum)) (xs : List A) (d : A) → ((k : ℕ) → k < length xs → row_at k columns ≡ f (get_or xs k d)) →
    struct_rows (length xs) columns ≡ map (λ x. struct_of (data_of (f x))) xs
struct_rows-each f columns xs d same =
    let g : _ = λ x. struct_of (data_of (f x)) in
    let long : length (struct_rows (length xs) columns) ≡ length xs = length-map-range_with_len (struct_at columns) 0 (length xs) in
    ext_get_or null _ _ (long ∙ sym (length-map xs g))
    (λ k h. let lt : k < length xs = omega (arith, long) in
    struct_row (length xs) columns k lt ∙ ap (λ row. struct_of (data_of row)) (same k lt) ∙ sym (get_or-map g xs k d null lt))

-- ---- what the call has put together

pub as_many : {A B C : Type 0} (f : A → C) (g : B → C) (xs : List A) (ys : List B) → map f xs ≡ map g ys → length xs ≡ length ys
as_many f g xs ys e = sym (length-map xs f) ∙ ap length e ∙ length-map ys g

-- the structs are of the type that was made
pub structs_made : (fields : StructFields) (nullability : Nullability) (names : List Name) (types : List DType) (cs : List Batch) (n : ℕ) (columns : List (List Datum)) (structs : List Value) →
    length names ≡ length cs → EachFit cs → all_long n cs ≡ true → map type_of types ≡ types_in cs → columns ≡ rows_in cs → fields_of fields ≡ fields_named names (map type_of types) → map value_of structs ≡ struct_rows n columns →
    first_misfit (type_of (DType.Struct fields nullability)) (map value_of structs) ≡ None
structs_made fields nullability names types cs n columns structs named fit long typed taken made are =
    let t : type_of (DType.Struct fields nullability) ≡ ty (struct (fields_of fields)) (admits_null nullability) = search (rules, the_types) in
    rw (t, made, typed, are, taken) (structs_fit names cs n (admits_null nullability) named fit long)
