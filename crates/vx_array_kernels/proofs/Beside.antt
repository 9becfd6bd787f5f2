-- What comparisons tell of the numbers of two columns.
use Rattle.std.proofs.Common.{◌≡◌, ℕ, ◌<◌, ◌≤◌, ℤ, pos, List, [], ◌∷◌, map, length, get_or, take, length-take, refl, sym, ap, ◌∙◌, arith, Bool, true, false}
use Rattle.std.specs.Prelude.{if◌then◌else◌, ◌&&◌}
use Rattle.std.specs.Ordering.{int_cmp}
use Rattle.std.specs.Simd.Lanes.{zip2}
use Rattle.std.proofs.lemmas.List.{length-map, get_or-map, get_or-take, take-map, ext_get_or}
use Rattle.std.proofs.lemmas.List.FromFn.{length-map-range_with_len, get_or-map-range_with_len}
use Rattle.std.proofs.lemmas.Simd.{length-zip2, get_or-zip2}
use Rattle.vx_value.specs.Types.{Datum, null, bool, int}
use Rattle.vx_fn.specs.Values.{compared}
use Rattle.vx_array_loops.specs.Comparisons.{holds}
use Rattle.vx_array_loops.specs.declared.comparison.Comparison.{Comparison as Asked}
use Rattle.vx_array_loops.specs.WordBits.{each_row}
use Rattle.vx_array.specs.declared.lanes.Lanes as Kind
use Rattle.vx_array.specs.declared.lanes.Lanes.{Lanes}
use Rattle.vx_array.specs.declared.numbers.Numbers.{Numbers}
use Rattle.vx_array.specs.declared.validity.Validity.{Validity}
use Rattle.vx_array.specs.declared.validity.Validity.TheVariants.{All, Nothing, Rows}
use Rattle.vx_array.specs.Shown.{is_valid, shown, shown_count, HasRows}
use Rattle.vx_array.specs.Kinds.{numbers_in}
use Rattle.vx_array.specs.Rows.{lanes_rows}
use Rattle.vx_array.proofs.Held.{rows-Numbers}
use Rattle.vx_array.proofs.Masked.{get_or-shown, length-shown, rows_within}
use Rattle.vx_array_kernels.specs.Asked.{asked}
use Rattle.vx_array_kernels.specs.Found.{IsLong, pair_rows}
use Rattle.vx_array_kernels.specs.declared.pair.Pair.{Pair}
use Rattle.vx_array_kernels.specs.Truths.{both_rows}
use Rattle.vx_array_kernels.proofs.Told.{agrees-asked, rows_as}

-- a validity of so many rows shows as many
pub all_counted : (v : Validity) (n : ℕ) → HasRows v n → shown_count v n ≡ n
all_counted All n h = refl
all_counted Nothing n h = refl
all_counted (Rows bits) n h = omega arith

pub numbers_there : (v : Validity) (ns : List ℤ) (n : ℕ) → length (shown v (map int ns)) ≡ n → (n ≤ length ns) × HasRows v n
numbers_there v ns n long = rows_within int v ns (shown v (map int ns)) n refl (omega arith)

-- the rows of lanes of numbers
pub numbers_held : (l : Lanes) (ns : Numbers) (v : Validity) (n : ℕ) → l ≡ Kind.Numbers ns v → length (lanes_rows l) ≡ n → length (shown v (map int (numbers_in ns))) ≡ n
numbers_held l ns v n is long = ap length (sym (ap lanes_rows is ∙ rows-Numbers ns v)) ∙ long

-- validities that show so many rows have as many
pub has_rows : (v : Validity) (n : ℕ) → shown_count v n ≡ n → HasRows v n
has_rows All n e = tt
has_rows Nothing n e = tt
has_rows (Rows bits) n e = omega (arith, e)

pub both_have : (v w all : Validity) (n : ℕ) → HasRows v n → HasRows w n → ((m : ℕ) → shown_count all m ≡ shown_count v (shown_count w m)) → HasRows all n
both_have v w all n left right count = has_rows all n (count n ∙ ap (shown_count v) (all_counted w n right) ∙ all_counted v n left)

-- of numbers that are shown and of those beside them
pub told_beside : (c : Asked) (v w all : Validity) (ns ms : List ℤ) (n : ℕ) (told : List Bool) (out : List Datum) → length (shown v (map int ns)) ≡ n → length (shown w (map int ms)) ≡ n →
    told ≡ each_row n (λ k. holds c (int_cmp (get_or ns k (pos 0)) (get_or ms k (pos 0)))) → ((k : ℕ) → is_valid all k ≡ (is_valid v k && is_valid w k)) → ((m : ℕ) → shown_count all m ≡ shown_count v (shown_count w m)) →
    out ≡ shown all (map bool told) → out ≡ both_rows n (compared (asked c)) (shown v (map int ns)) (shown w (map int ms))
told_beside c v w all ns ms n told out left right are each count is =
    is ∙ rows_as n (λ k. compared (asked c) (get_or (shown v (map int ns)) k null) (get_or (shown w (map int ms)) k null)) (shown all (map bool told)) long at
  where
    held : ℕ → Bool
    held k = holds c (int_cmp (get_or ns k (pos 0)) (get_or ms k (pos 0)))

    many : length told ≡ n
    many = ap length are ∙ length-map-range_with_len held 0 n

    long : length (shown all (map bool told)) ≡ n
    long =
        length-shown all (map bool told) ∙ ap (shown_count all) (length-map told bool ∙ many) ∙ count n ∙ ap (shown_count v) (all_counted w n (numbers_there w ms n right).1) ∙ all_counted v n (numbers_there v ns n left).1

    tells : (a b : Bool) (i j : ℤ) → (if a && b then bool (holds c (int_cmp i j)) else null) ≡ compared (asked c) (if a then int i else null) (if b then int j else null)
    tells true true i j = ap bool (agrees-asked c (int_cmp i j))
    tells true false i j = refl
    tells false true i j = refl
    tells false false i j = refl

    shows : (u : Validity) (is : List ℤ) (k : ℕ) → k < length is → get_or (shown u (map int is)) k null ≡ (if is_valid u k then int (get_or is k (pos 0)) else null)
    shows u is k lt = get_or-shown u (map int is) k ∙ ap (λ d. if is_valid u k then d else null) (get_or-map int is k (pos 0) null lt)

    at : (k : ℕ) → k < n → get_or (shown all (map bool told)) k null ≡ compared (asked c) (get_or (shown v (map int ns)) k null) (get_or (shown w (map int ms)) k null)
    at k lt =
        get_or-shown all (map bool told) k ∙ ap (λ d. if is_valid all k then d else null) (get_or-map bool told k false null (omega (arith, many)) ∙ ap bool (ap (λ l. get_or l k false) are ∙ get_or-map-range_with_len held 0 n k k false lt (omega arith)))
        ∙ ap (λ b. if b then bool (held k) else null) (each k) ∙ tells (is_valid v k) (is_valid w k) (get_or ns k (pos 0)) (get_or ms k (pos 0))
        ∙ ap (λ d. compared (asked c) d (if is_valid w k then int (get_or ms k (pos 0)) else null)) (sym (shows v ns k (omega (arith, (numbers_there v ns n left).0))))
        ∙ ap (compared (asked c) (get_or (shown v (map int ns)) k null)) (sym (shows w ms k (omega (arith, (numbers_there w ms n right).0))))

-- of the numbers of one width
zip_at : {A : Type 0} (number : A → ℤ) (h : ℤ → ℤ → Bool) (us vs : List A) (k : ℕ) → k < length us → k < length vs → get_or (zip2 (λ x y. h (number x) (number y)) us vs) k false ≡ h (get_or (map number us) k (pos 0)) (get_or (map number vs) k (pos 0))
zip_at number h [] vs k low wide = absurd (omega arith)
zip_at number h (u ∷ us) [] k low wide = absurd (omega arith)
zip_at number h (u ∷ us) (v ∷ vs) k low wide =
    get_or-zip2 (λ x y. h (number x) (number y)) (u ∷ us) (v ∷ vs) k u v false low wide ∙ ap (λ i. h i (number (get_or (v ∷ vs) k v))) (sym (get_or-map number (u ∷ us) k u (pos 0) low))
    ∙ ap (h (get_or (map number (u ∷ us)) k (pos 0))) (sym (get_or-map number (v ∷ vs) k v (pos 0) wide))

pub told_first : {A : Type 0} (number : A → ℤ) (c : Asked) (xs ys us vs : List A) (n : ℕ) (told : List Bool) → n ≤ length (map number xs) → n ≤ length (map number ys) → us ≡ take n xs → vs ≡ take n ys →
    told ≡ zip2 (λ x y. holds c (int_cmp (number x) (number y))) us vs → told ≡ each_row n (λ k. holds c (int_cmp (get_or (map number xs) k (pos 0)) (get_or (map number ys) k (pos 0))))
told_first {A = A} number c xs ys us vs n told left right these those are =
    ext_get_or false told (each_row n held) (many ∙ sym (length-map-range_with_len held 0 n))
    (λ k lt. let low : k < n = omega (arith, many) in
    ap (λ l. get_or l k false) are ∙ zip_at number (λ i j. holds c (int_cmp i j)) us vs k (omega (arith, us_long)) (omega (arith, vs_long))
    ∙ ap (λ i. holds c (int_cmp i (get_or (map number vs) k (pos 0)))) (first xs us these k low) ∙ ap (λ j. holds c (int_cmp (get_or (map number xs) k (pos 0)) j)) (first ys vs those k low)
    ∙ sym (get_or-map-range_with_len held 0 n k k false low (omega arith)))
  where
    held : ℕ → Bool
    held k = holds c (int_cmp (get_or (map number xs) k (pos 0)) (get_or (map number ys) k (pos 0)))

    us_long : length us ≡ n
    us_long = omega (arith, ap length these, length-take n xs, length-map xs number)

    vs_long : length vs ≡ n
    vs_long = omega (arith, ap length those, length-take n ys, length-map ys number)

    many : length told ≡ n
    many = ap length are ∙ length-zip2 (λ x y. holds c (int_cmp (number x) (number y))) us vs (us_long ∙ sym vs_long) ∙ us_long

    first : (zs ts : List A) → ts ≡ take n zs → (k : ℕ) → k < n → get_or (map number ts) k (pos 0) ≡ get_or (map number zs) k (pos 0)
    first zs ts is k low = ap (λ l. get_or (map number l) k (pos 0)) is ∙ ap (λ l. get_or l k (pos 0)) (sym (take-map number n zs)) ∙ get_or-take n (map number zs) k (pos 0) low

-- the same of the lanes of a pair
pub columns_told : (c : Asked) (q : Pair) (v w all : Validity) (ns ms : Numbers) (told bits : List Bool) (out : List Datum) → q.lhs.now ≡ Kind.Numbers ns v → q.rhs.now ≡ Kind.Numbers ms w → IsLong q →
    told ≡ each_row q.count (λ k. holds c (int_cmp (get_or (numbers_in ns) k (pos 0)) (get_or (numbers_in ms) k (pos 0)))) → bits ≡ told → ((k : ℕ) → is_valid all k ≡ (is_valid v k && is_valid w k)) → ((m : ℕ) → shown_count all m ≡ shown_count v (shown_count w m)) →
    out ≡ shown all (map bool bits) → out ≡ pair_rows (compared (asked c)) q
columns_told c q v w all ns ms told bits out left right long are same each count is =
    told_beside c v w all (numbers_in ns) (numbers_in ms) q.count bits out (numbers_held q.lhs.now ns v q.count left long.0) (numbers_held q.rhs.now ms w q.count right long.1) (same ∙ are) each count is
    ∙ ap (λ l. both_rows q.count (compared (asked c)) l (shown w (map int (numbers_in ms)))) (sym (ap lanes_rows left ∙ rows-Numbers ns v)) ∙ ap (both_rows q.count (compared (asked c)) (lanes_rows q.lhs.now)) (sym (ap lanes_rows right ∙ rows-Numbers ms w))
