-- Truth values in bits, row by row.
use Rattle.std.proofs.Common.{◌≡◌, ℕ, ◌<◌, ◌≤◌, List, map, length, get_or, take, refl, sym, ap, ◌∙◌, arith, Bool, true, false, ◌&&◌, ◌||◌, not}
use Rattle.std.specs.Prelude.{if◌then◌else◌}
use Rattle.std.proofs.lemmas.List.{length-map, get_or-map, get_or-take, length-take}
use Rattle.std.proofs.lemmas.List.FromFn.{length-map-range_with_len, get_or-map-range_with_len}
use Rattle.std.proofs.lemmas.Simd.{length-zip2, get_or-zip2, zip2_splat_left}
use Rattle.std.specs.Simd.Lanes.{zip2}
use Rattle.vx_value.specs.Types.{Datum, null, bool}
use Rattle.vx_fn.specs.Values.{kleene_and, kleene_or, kleene_not}
use Rattle.std.proofs.Math.ListN.{replicate}
use Rattle.std.proofs.Math.Seq.{take-length}
use Rattle.vx_array_loops.specs.Logic.{and_valid, or_valid, unless}
use Rattle.vx_array_loops.specs.WordBits.{each_row}
use Rattle.vx_array.specs.declared.validity.Validity.{Validity}
use Rattle.vx_array.specs.declared.validity.Validity.TheVariants.{Rows}
use Rattle.vx_array.specs.Shown.{masked, shown, is_valid, HasRows}
use Rattle.vx_array.proofs.Mapped.{map_map, map-shown}
use Rattle.vx_array.proofs.Masked.{length-masked, get_or-shown, rows_within}
use Rattle.vx_array_kernels.specs.Truths.{truth, truth_rows, both_rows}
use Rattle.vx_array_kernels.proofs.Told.{rows_as}

pub and_is : (v a w b : Bool) → truth (and_valid v a w b) (a && b) ≡ kleene_and (truth v a) (truth w b)
and_is true true true true = refl
and_is true true true false = refl
and_is true true false true = refl
and_is true true false false = refl
and_is true false true true = refl
and_is true false true false = refl
and_is true false false true = refl
and_is true false false false = refl
and_is false true true true = refl
and_is false true true false = refl
and_is false true false true = refl
and_is false true false false = refl
and_is false false true true = refl
and_is false false true false = refl
and_is false false false true = refl
and_is false false false false = refl

pub or_is : (v a w b : Bool) → truth (or_valid v a w b) (a || b) ≡ kleene_or (truth v a) (truth w b)
or_is true true true true = refl
or_is true true true false = refl
or_is true true false true = refl
or_is true true false false = refl
or_is true false true true = refl
or_is true false true false = refl
or_is true false false true = refl
or_is true false false false = refl
or_is false true true true = refl
or_is false true true false = refl
or_is false true false true = refl
or_is false true false false = refl
or_is false false true true = refl
or_is false false true false = refl
or_is false false false true = refl
or_is false false false false = refl

pub length-truth_rows : (n : ℕ) (vs bs : List Bool) → length (truth_rows n vs bs) ≡ n
length-truth_rows n vs bs = length-map-range_with_len (λ k. truth (get_or vs k false) (get_or bs k false)) 0 n

pub get_or-truth_rows : (n : ℕ) (vs bs : List Bool) (k : ℕ) → k < n → get_or (truth_rows n vs bs) k null ≡ truth (get_or vs k false) (get_or bs k false)
get_or-truth_rows n vs bs k lt = get_or-map-range_with_len (λ k. truth (get_or vs k false) (get_or bs k false)) 0 n k k null lt (omega arith)

-- so many rows of truth values are there
pub rows_there : (v : Validity) (xs : List Bool) (n : ℕ) → length (shown v (map bool xs)) ≡ n → (n ≤ length xs) × HasRows v n
rows_there v xs n long = rows_within bool v xs (shown v (map bool xs)) n refl (omega arith)

-- truth values that are shown, by their bits
pub shown_truths : (v : Validity) (xs vs bs : List Bool) (n : ℕ) → length (shown v (map bool xs)) ≡ n → length vs ≡ n → ((k : ℕ) → k < n → get_or vs k false ≡ is_valid v k) → bs ≡ take n xs →
    (length vs ≡ length bs) × (truth_rows (length bs) vs bs ≡ shown v (map bool xs))
shown_truths v xs vs bs n long many each are = (many ∙ sym counted, ap (λ m. truth_rows m vs bs) counted ∙ sym (rows_as n (λ k. truth (get_or vs k false) (get_or bs k false)) (shown v (map bool xs)) long at))
  where
    there : n ≤ length xs
    there = (rows_there v xs n long).0

    counted : length bs ≡ n
    counted = ap length are ∙ length-take n xs ∙ omega (arith, there)

    at : (k : ℕ) → k < n → get_or (shown v (map bool xs)) k null ≡ truth (get_or vs k false) (get_or bs k false)
    at k lt =
        let within : k < length xs = omega (arith, there) in
        get_or-shown v (map bool xs) k ∙ ap (λ d. if is_valid v k then d else null) (get_or-map bool xs k false null within)
        ∙ ap (λ b. truth b (get_or xs k false)) (sym (each k lt)) ∙ ap (truth (get_or vs k false)) (sym (ap (λ l. get_or l k false) are ∙ get_or-take n xs k false lt))

-- what is made of two columns' bits
pub combined_truths : (op : Bool → Bool → Bool) (valid_of : Bool → Bool → Bool → Bool → Bool) (g : Datum → Datum → Datum) → ((v a w b : Bool) → truth (valid_of v a w b) (op a b) ≡ g (truth v a) (truth w b)) →
    (vs bs ws cs us ts : List Bool) (xs ys : List Datum) → truth_rows (length bs) vs bs ≡ xs → truth_rows (length cs) ws cs ≡ ys → length vs ≡ length bs → length ys ≡ length xs →
    us ≡ each_row (length vs) (λ k. valid_of (get_or vs k false) (get_or bs k false) (get_or ws k false) (get_or cs k false)) → ts ≡ zip2 op bs cs →
    (length us ≡ length ts) × (truth_rows (length ts) us ts ≡ both_rows (length xs) g xs ys)
combined_truths op valid_of g is vs bs ws cs us ts xs ys left right many long valid made = (
  ap length valid ∙ length-map-range_with_len (λ k. valid_of (get_or vs k false) (get_or bs k false) (get_or ws k false) (get_or cs k false)) 0 (length vs) ∙ many ∙ sym counted,
  ap (λ m. truth_rows m us ts) counted ∙ sym (rows_as (length bs) (λ k. truth (get_or us k false) (get_or ts k false)) (both_rows (length xs) g xs ys) (length-map-range_with_len (λ k. g (get_or xs k null) (get_or ys k null)) 0 (length xs) ∙ wide) at),
)
  where
    wide : length xs ≡ length bs
    wide = ap length (sym left) ∙ length-truth_rows (length bs) vs bs

    others : length cs ≡ length bs
    others = sym (length-truth_rows (length cs) ws cs) ∙ ap length right ∙ long ∙ wide

    counted : length ts ≡ length bs
    counted = ap length made ∙ length-zip2 op bs cs (sym others)

    at : (k : ℕ) → k < length bs → get_or (both_rows (length xs) g xs ys) k null ≡ truth (get_or us k false) (get_or ts k false)
    at k lt =
        get_or-map-range_with_len (λ k. g (get_or xs k null) (get_or ys k null)) 0 (length xs) k k null (omega (arith, wide)) (omega arith)
        ∙ ap (λ d. g d (get_or ys k null)) (ap (λ l. get_or l k null) (sym left) ∙ get_or-truth_rows (length bs) vs bs k lt)
        ∙ ap (g (truth (get_or vs k false) (get_or bs k false))) (ap (λ l. get_or l k null) (sym right) ∙ get_or-truth_rows (length cs) ws cs k (omega (arith, others)))
        ∙ sym (is (get_or vs k false) (get_or bs k false) (get_or ws k false) (get_or cs k false))
        ∙ ap (λ b. truth b (op (get_or bs k false) (get_or cs k false))) (sym (ap (λ l. get_or l k false) valid ∙ get_or-map-range_with_len (λ k. valid_of (get_or vs k false) (get_or bs k false) (get_or ws k false) (get_or cs k false)) 0 (length vs) k k false (omega (arith, many)) (omega arith)))
        ∙ ap (truth (get_or us k false)) (sym (ap (λ l. get_or l k false) made ∙ get_or-zip2 op bs cs k false false false lt (omega (arith, others))))

-- of two columns with as many rows, the bits are as many
pub same_counts : (vs bs ws cs : List Bool) (xs ys : List Datum) → truth_rows (length bs) vs bs ≡ xs → truth_rows (length cs) ws cs ≡ ys → length vs ≡ length bs → length ws ≡ length cs → length ys ≡ length xs →
    (length ws ≡ length vs) × ((length cs ≡ length vs) × (length cs ≡ length bs))
same_counts vs bs ws cs xs ys left right many wide long =
    let first : length xs ≡ length bs = ap length (sym left) ∙ length-truth_rows (length bs) vs bs in
    let second : length ys ≡ length cs = ap length (sym right) ∙ length-truth_rows (length cs) ws cs in
    (omega arith, (omega arith, omega arith))

-- bits in lanes, and the rows that they were seen as
pub masked_truths : (vs bs ts : List Bool) (xs : List Datum) → ts ≡ bs → length vs ≡ length bs → truth_rows (length bs) vs bs ≡ xs → masked vs (map bool ts) ≡ xs
masked_truths vs bs ts xs made many view =
    ap (λ l. masked vs (map bool l)) made
    ∙ sym (shown_truths (Rows vs) bs vs bs (length bs) (length-masked vs (map bool bs) ∙ omega (arith, length-map bs bool)) many (λ k lt. refl) (sym (take-length bs))).1 ∙ view

-- bits that are turned round
pub turned_is : (n : ℕ) (zs bs new : List Bool) → n ≡ length bs → zs ≡ replicate n false → new ≡ unless zs bs → new ≡ map not bs
turned_is n zs bs new counted none made = made ∙ ap (λ l. unless l bs) none ∙ zip2_splat_left (λ a b. a || not b) false n bs (sym counted)

pub all_taken : (n : ℕ) (xs : List Bool) → n ≡ length xs → take n xs ≡ xs
all_taken n xs all = ap (λ m. take m xs) all ∙ take-length xs

-- the negation of truth values that are shown
pub not_rows : (v : Validity) (xs bs : List Bool) (rows out : List Datum) → bs ≡ map not xs → out ≡ shown v (map bool bs) → rows ≡ shown v (map bool xs) → out ≡ map kleene_not rows
not_rows v xs bs rows out are shows is =
    shows ∙ ap (λ l. shown v (map bool l)) are ∙ ap (shown v) (map_map bool not xs ∙ sym (map_map kleene_not bool xs)) ∙ sym (map-shown kleene_not v (map bool xs) refl) ∙ ap (map kleene_not) (sym is)
