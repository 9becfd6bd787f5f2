-- What comparisons tell of numbers.
use Rattle.std.proofs.Common.{◌≡◌, ℕ, ◌<◌, ℤ, List, map, length, get_or, refl, sym, ap, ◌∙◌, arith, Bool}
use Rattle.std.specs.Ordering.{int_cmp}
use Rattle.std.specs.declared.cmp.Ordering.{Ordering}
use Rattle.vx_value.specs.Types.{Datum, null, bool, int}
use Rattle.vx_fn.specs.Functions.{compares, mirrored}
use Rattle.vx_fn.specs.Values.{agrees, compared}
use Rattle.vx_fn.proofs.Swaps.{swapped_over_exchanged_operands}
use Rattle.std.proofs.Math.ListN.{replicate}
use Rattle.std.proofs.lemmas.List.{length-map, ext_get_or, get_or-map, get_or-replicate, length-replicate}
use Rattle.std.proofs.lemmas.List.FromFn.{length-map-range_with_len, get_or-map-range_with_len}
use Rattle.vx_array_loops.specs.WordBits.{each_row}
use Rattle.vx_array.specs.declared.validity.Validity.{Validity}
use Rattle.vx_array.specs.Shown.{shown}
use Rattle.vx_array.proofs.Mapped.{map_map, map_same, map-shown}
use Rattle.vx_array_loops.specs.Comparisons.{holds}
use Rattle.vx_array_loops.specs.declared.comparison.Comparison.{Comparison as Asked}
use Rattle.vx_array_loops.specs.declared.comparison.Comparison.TheVariants.{Equal, NotEqual, Less, LessOrEqual, Greater, GreaterOrEqual}
use Rattle.vx_array_kernels.specs.Asked.{asked, compared_rows}
use Rattle.vx_array_kernels.specs.Truths.{both_rows}

-- both comparisons ask for the same orders
pub agrees-asked : (c : Asked) (o : Ordering) → holds c o ≡ agrees (asked c) o
agrees-asked Equal o = refl
agrees-asked NotEqual o = refl
agrees-asked Less o = refl
agrees-asked LessOrEqual o = refl
agrees-asked Greater o = refl
agrees-asked GreaterOrEqual o = refl

-- of numbers of one width
pub told_numbers : {A : Type 0} (number : A → ℤ) (c : Asked) (xs ys : List A) (j k : ℤ) (told : List Bool) → ys ≡ xs → j ≡ k → told ≡ map (λ x. holds c (int_cmp (number x) j)) ys → told ≡ map (λ n. holds c (int_cmp n k)) (map number xs)
told_numbers number c xs ys j k told same one are =
    are ∙ ap (map (λ x. holds c (int_cmp (number x) j))) same ∙ ap (λ m. map (λ x. holds c (int_cmp (number x) m)) xs) one ∙ sym (map_map (λ n. holds c (int_cmp n k)) number xs)

-- of each number that is shown and of one
pub told_shown : (c : Asked) (v : Validity) (ns : List ℤ) (k : ℤ) (told : List Bool) (rows : List Datum) → told ≡ map (λ n. holds c (int_cmp n k)) ns → rows ≡ shown v (map bool told) → rows ≡ compared_rows c (int k) (shown v (map int ns))
told_shown c v ns k told rows are shows =
    let h = λ (d : Datum). compared (asked c) d (int k) in
    shows ∙ ap (λ l. shown v (map bool l)) are ∙ ap (shown v) (map_map bool (λ n. holds c (int_cmp n k)) ns)
    ∙ ap (shown v) (map_same (λ n. bool (holds c (int_cmp n k))) (λ n. h (int n)) ns (λ n. ap bool (agrees-asked c (int_cmp n k))))
    ∙ ap (shown v) (sym (map_map h int ns)) ∙ sym (map-shown h v (map int ns) refl)

-- rows that are given one by one
pub rows_as : (n : ℕ) (f : ℕ → Datum) (ds : List Datum) → length ds ≡ n → ((k : ℕ) → k < n → get_or ds k null ≡ f k) → ds ≡ each_row n f
rows_as n f ds long h =
    ext_get_or null ds (each_row n f) (long ∙ sym (length-map-range_with_len f 0 n)) (λ k lt. let within : k < n = omega arith in h k within ∙ sym (get_or-map-range_with_len f 0 n k k null within (omega arith)))

at_one : (m : ℕ) (ys : List Datum) (d : Datum) (k : ℕ) → ys ≡ replicate m d → k < length ys → get_or ys k null ≡ d
at_one m ys d k one lt = ap (λ l. get_or l k null) one ∙ get_or-replicate m k d null (omega (arith, ap length one, length-replicate m d))

pub length-both_rows : (n : ℕ) (g : Datum → Datum → Datum) (xs ys : List Datum) → length (both_rows n g xs ys) ≡ n
length-both_rows n g xs ys = length-map-range_with_len (λ k. g (get_or xs k null) (get_or ys k null)) 0 n

-- ---- two columns, of which one is one value

-- what each row gives with one value beside it
pub both_with : (n m : ℕ) (g : Datum → Datum → Datum) (xs ys out : List Datum) (d : Datum) → length xs ≡ n → length ys ≡ n → ys ≡ replicate m d → out ≡ map (λ v. g v d) xs → out ≡ both_rows n g xs ys
both_with n m g xs ys out d long wide one is =
    is ∙ rows_as n (λ k. g (get_or xs k null) (get_or ys k null)) (map (λ v. g v d) xs) (length-map xs (λ v. g v d) ∙ long)
    (λ k lt. get_or-map (λ v. g v d) xs k null null (omega (arith, long)) ∙ ap (g (get_or xs k null)) (sym (at_one m ys d k one (omega (arith, wide)))))

-- and with one value before it
pub both_before : (n m : ℕ) (g h : Datum → Datum → Datum) (xs ys out : List Datum) (d : Datum) → ((v w : Datum) → h v w ≡ g w v) → length xs ≡ n → length ys ≡ n → xs ≡ replicate m d → out ≡ map (λ v. h v d) ys → out ≡ both_rows n g xs ys
both_before n m g h xs ys out d turned long wide one is =
    is ∙ rows_as n (λ k. g (get_or xs k null) (get_or ys k null)) (map (λ v. h v d) ys) (length-map ys (λ v. h v d) ∙ wide)
    (λ k lt. get_or-map (λ v. h v d) ys k null null (omega (arith, wide)) ∙ turned (get_or ys k null) d ∙ ap (λ v. g v (get_or ys k null)) (sym (at_one m xs d k one (omega (arith, long)))))

-- a comparison for exchanged operands
pub turned_round : (c b : Asked) (v w : Datum) → asked b ≡ mirrored (asked c) → compared (asked b) v w ≡ compared (asked c) w v
turned_round c b v w is = ap (λ x. compared x v w) is ∙ swapped_over_exchanged_operands (compares (asked c)) v w
