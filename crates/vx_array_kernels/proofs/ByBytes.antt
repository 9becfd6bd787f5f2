-- What the bytes of texts in a buffer tell.
use Rattle.std.proofs.Common.{◌≡◌, ℕ, ◌+◌, ◌<◌, ◌≤◌, ◌-◌, ◌^◌, ℤ, pos, List, [], map, length, get_or, refl, sym, ap, subst, ◌∙◌, arith, Bool, true, false, not, nat_eq, IsUtf8}
use Rattle.std.proofs.Math.ListN.{replicate}
use Rattle.std.specs.Prelude.{if◌then◌else◌, ◌&&◌, min}
use Rattle.std.specs.List.{range_with_len, starts_with}
use Rattle.std.specs.Str.{IsAscii, is_utf8}
use Rattle.std.proofs.lemmas.List.{length-map, get_or-map, ext_get_or, get_or-replicate, length-replicate}
use Rattle.std.proofs.lemmas.List.FromFn.{length-map-range_with_len, get_or-map-range_with_len}
use Rattle.std.proofs.lemmas.Str.{IsAscii-drop, IsAscii-take, IsUtf8-from_ascii, IsUtf8-from_is_utf8}
use Rattle.vx_value.specs.Types.{Datum, null, bool, int, utf8, is_null_datum}
use Rattle.vx_fn.specs.Values.{begun, counted_bytes}
use Rattle.vx_eval_like.proofs.Beginning.{by_characters}
use Rattle.vx_array.specs.declared.validity.Validity.{Validity}
use Rattle.vx_array.specs.declared.validity.Validity.TheVariants.{Rows}
use Rattle.vx_array.specs.Kinds.{span_at, text_row}
use Rattle.vx_array.specs.Shown.{is_valid, masked, shown, shown_count, HasRows}
use Rattle.vx_array.proofs.Mapped.{map_map, map_same}
use Rattle.vx_array.proofs.Masked.{get_or-shown, length-masked, length-shown}
use Rattle.vx_array.proofs.Reading.{text_read}
use Rattle.vx_array_kernels.specs.Truths.{truth, both_rows, AreValues, TellsNulls}
use Rattle.vx_array_kernels.proofs.Beside.{all_counted, both_have, has_rows}

-- ---- which texts are there

-- texts that are cut out of bytes that are all ASCII
pub ascii_texts : (offsets bytes : List ℕ) (spans : List (List ℕ)) (n : ℕ) → IsAscii bytes → spans ≡ map (span_at offsets bytes) (range_with_len 0 n) → map text_row spans ≡ map utf8 spans
ascii_texts offsets bytes spans n ascii is =
    let rows = range_with_len 0 n in
    let cut = span_at offsets bytes in
    ap (map text_row) is ∙ map_map text_row cut rows
    ∙ map_same (λ k. text_row (cut k)) (λ k. utf8 (cut k)) rows
    (λ k. sym (text_read (cut k) (IsUtf8-from_ascii (cut k) (IsAscii-take _ (get_or offsets (k + 1) 0 - get_or offsets k 0) (IsAscii-drop bytes (get_or offsets k 0) ascii)))))
    ∙ sym (map_map utf8 cut rows) ∙ ap (map utf8) (sym is)

-- a validity that shows what bits do that tell which rows aren't null
pub tells_by : (v : Validity) (valid : List Bool) (rows : List Datum) (n : ℕ) → length rows ≡ n → AreValues valid rows → ((ds : List Datum) → length ds ≡ n → shown v ds ≡ masked valid ds) → TellsNulls v rows
tells_by v valid rows n long values same = (
  subst (HasRows v) (sym long) (has_rows v n counted),
  λ k lt. values.1 k lt ∙ ap not (sym (alike (is_valid v k) (get_or valid k false) (by_both k (omega (arith, long))))),
)
  where
    all : List Datum
    all = replicate n (bool true)

    many : length all ≡ n
    many = length-replicate n (bool true)

    counted : shown_count v n ≡ n
    counted = ap (shown_count v) (sym many) ∙ sym (length-shown v all) ∙ ap length (same all many) ∙ length-masked valid all ∙ omega (arith, many, values.0, long)

    alike : (a b : Bool) → (if a then bool true else null) ≡ (if b then bool true else null) → a ≡ b
    alike true true e = refl
    alike true false e = cc
    alike false true e = cc
    alike false false e = refl

    by_both : (k : ℕ) → k < n → (if is_valid v k then bool true else null) ≡ (if get_or valid k false then bool true else null)
    by_both k lt =
        ap (λ d. if is_valid v k then d else null) (sym (get_or-replicate n k (bool true) null lt)) ∙ sym (get_or-shown v all k) ∙ ap (λ l. get_or l k null) (same all many)
        ∙ get_or-shown (Rows valid) all k ∙ ap (λ d. if get_or valid k false then d else null) (get_or-replicate n k (bool true) null lt)

-- ---- rows that a validity shows

-- what holds of null, and of the row's bytes where they are a text
by_row : (P : Datum → Type 0) (v : Validity) (spans : List (List ℕ)) (k : ℕ) → k < length spans → P null → (IsUtf8 (get_or spans k []) → P (utf8 (get_or spans k []))) → P (get_or (shown v (map text_row spans)) k null)
by_row P v spans k lt none some = subst P (sym is) (shows (is_valid v k))
  where
    bs : List ℕ
    bs = get_or spans k []

    is : get_or (shown v (map text_row spans)) k null ≡ (if is_valid v k then text_row bs else null)
    is = get_or-shown v (map text_row spans) k ∙ ap (λ d. if is_valid v k then d else null) (get_or-map text_row spans k [] null lt)

    reads : (b : Bool) → is_utf8 bs ≡ b → P (if b then utf8 bs else null)
    reads true e = some (IsUtf8-from_is_utf8 bs e)
    reads false e = none

    shows : (b : Bool) → P (if b then text_row bs else null)
    shows true = reads (is_utf8 bs) refl
    shows false = none

-- values that a validity shows are these rows where each is
shows_rows : {A : Type 0} (d : A) (f : A → Datum) (v : Validity) (xs : List A) (rows : List Datum) (n : ℕ) → HasRows v n → length xs ≡ n → length rows ≡ n → ((k : ℕ) → k < n → (if is_valid v k then f (get_or xs k d) else null) ≡ get_or rows k null) → shown v (map f xs) ≡ rows
shows_rows d f v xs rows n has many long each =
    ext_get_or null (shown v (map f xs)) rows (counted ∙ sym long)
    (λ k lt. let low : k < n = omega (arith, counted) in
    get_or-shown v (map f xs) k ∙ ap (λ x. if is_valid v k then x else null) (get_or-map f xs k d null (omega (arith, many))) ∙ each k low)
  where
    counted : length (shown v (map f xs)) ≡ n
    counted = length-shown v (map f xs) ∙ ap (shown_count v) (length-map xs f ∙ many) ∙ all_counted v n has

-- ---- beginnings

no_first : (a b told : Bool) → true ≡ not a → truth (a && b) told ≡ null
no_first true b told e = cc
no_first false b told e = refl

no_second : (a b told : Bool) → true ≡ not b → truth (a && b) told ≡ null
no_second a true told e = cc
no_second true false told e = refl
no_second false false told e = refl

both_texts : (a b told : Bool) (t p : List ℕ) → IsUtf8 t → IsUtf8 p → told ≡ starts_with nat_eq t p → false ≡ not a → false ≡ not b → truth (a && b) told ≡ begun (utf8 t) (utf8 p)
both_texts true true told t p text prefix is e f = ap bool (is ∙ by_characters t p text prefix)
both_texts true false told t p text prefix is e f = cc
both_texts false b told t p text prefix is e f = cc

-- what the bytes of a row tell beside a value that is null or this text
begun_row : (a b told : Bool) (u : Validity) (spans : List (List ℕ)) (k : ℕ) (p : List ℕ) → k < length spans → IsUtf8 p → told ≡ starts_with nat_eq (get_or spans k []) p → is_null_datum (get_or (shown u (map text_row spans)) k null) ≡ not a → false ≡ not b →
    truth (a && b) told ≡ begun (get_or (shown u (map text_row spans)) k null) (utf8 p)
begun_row a b told u spans k p lt prefix is nulls there =
    by_row (λ d. is_null_datum d ≡ not a → truth (a && b) told ≡ begun d (utf8 p)) u spans k lt (λ e. no_first a b told e) (λ text e. both_texts a b told (get_or spans k []) p text prefix is e there) nulls

null_row : (a b told : Bool) (u : Validity) (spans : List (List ℕ)) (k : ℕ) → k < length spans → true ≡ not b → truth (a && b) told ≡ begun (get_or (shown u (map text_row spans)) k null) null
null_row a b told u spans k lt none = by_row (λ d. truth (a && b) told ≡ begun d null) u spans k lt (no_second a b told none) (λ text. no_second a b told none)

-- texts against one
pub all_begun : (u v : Validity) (spans : List (List ℕ)) (p : List ℕ) (told : List Bool) (n : ℕ) → length (shown u (map text_row spans)) ≡ n → n ≤ length spans → length told ≡ n → IsUtf8 p → TellsNulls v (shown u (map text_row spans)) →
    ((k : ℕ) → k < n → get_or told k false ≡ starts_with nat_eq (get_or spans k []) p) → shown v (map bool told) ≡ map (λ d. begun d (utf8 p)) (shown u (map text_row spans))
all_begun u v spans p told n long there many prefix tells each =
    let xs = shown u (map text_row spans) in
    shows_rows false bool v told (map (λ d. begun d (utf8 p)) xs) n (subst (HasRows v) long tells.0) many (length-map xs (λ d. begun d (utf8 p)) ∙ long)
    (λ k lt. ap (λ b. truth b (get_or told k false)) (and_true (is_valid v k)) ∙ begun_row (is_valid v k) true (get_or told k false) u spans k p (omega arith) prefix (each k lt) (tells.1 k (omega (arith, long))) refl
    ∙ sym (get_or-map (λ d. begun d (utf8 p)) xs k null null (omega (arith, long))))
  where
    and_true : (b : Bool) → b ≡ (b && true)
    and_true true = refl
    and_true false = refl

-- and against those beside them
pub all_begun_beside : (u w v1 v2 v : Validity) (spans others : List (List ℕ)) (told : List Bool) (n : ℕ) → length (shown u (map text_row spans)) ≡ n → n ≤ length spans → length (shown w (map text_row others)) ≡ n → n ≤ length others → length told ≡ n →
    TellsNulls v1 (shown u (map text_row spans)) → TellsNulls v2 (shown w (map text_row others)) → ((k : ℕ) → is_valid v k ≡ (is_valid v1 k && is_valid v2 k)) → ((m : ℕ) → shown_count v m ≡ shown_count v1 (shown_count v2 m)) →
    ((k : ℕ) → k < n → get_or told k false ≡ starts_with nat_eq (get_or spans k []) (get_or others k [])) → shown v (map bool told) ≡ both_rows n begun (shown u (map text_row spans)) (shown w (map text_row others))
all_begun_beside u w v1 v2 v spans others told n long there wide beside many left right both count each =
    shows_rows false bool v told (both_rows n begun xs ys) n (both_have v1 v2 v n (subst (HasRows v1) long left.0) (subst (HasRows v2) wide right.0) count) many (length-map-range_with_len (λ k. begun (get_or xs k null) (get_or ys k null)) 0 n)
    (λ k lt. ap (λ b. truth b (get_or told k false)) (both k) ∙ at k lt ∙ sym (get_or-map-range_with_len (λ k. begun (get_or xs k null) (get_or ys k null)) 0 n k k null lt (omega arith)))
  where
    xs : List Datum
    xs = shown u (map text_row spans)

    ys : List Datum
    ys = shown w (map text_row others)

    at : (k : ℕ) → k < n → truth (is_valid v1 k && is_valid v2 k) (get_or told k false) ≡ begun (get_or xs k null) (get_or ys k null)
    at k lt =
        by_row (λ y. is_null_datum y ≡ not (is_valid v2 k) → truth (is_valid v1 k && is_valid v2 k) (get_or told k false) ≡ begun (get_or xs k null) y) w others k (omega arith)
        (λ e. null_row (is_valid v1 k) (is_valid v2 k) (get_or told k false) u spans k (omega arith) e)
        (λ prefix e. begun_row (is_valid v1 k) (is_valid v2 k) (get_or told k false) u spans k (get_or others k []) (omega arith) prefix (each k lt) (left.1 k (omega (arith, long))) e) (right.1 k (omega (arith, wide)))

-- ---- lengths

length_row : (a : Bool) (z : ℤ) (u : Validity) (spans : List (List ℕ)) (k : ℕ) → k < length spans → z ≡ pos (min (length (get_or spans k [])) (2 ^ 63 - 1)) → is_null_datum (get_or (shown u (map text_row spans)) k null) ≡ not a →
    (if a then int z else null) ≡ counted_bytes (get_or (shown u (map text_row spans)) k null)
length_row a z u spans k lt is nulls = by_row (λ d. is_null_datum d ≡ not a → (if a then int z else null) ≡ counted_bytes d) u spans k lt (λ e. none a e) (λ text e. some a e) nulls
  where
    none : (a : Bool) → true ≡ not a → (if a then int z else null) ≡ null
    none true e = cc
    none false e = refl

    some : (a : Bool) → false ≡ not a → (if a then int z else null) ≡ int (pos (min (length (get_or spans k [])) (2 ^ 63 - 1)))
    some true e = ap int is
    some false e = cc

pub all_counted_bytes : (u v : Validity) (spans : List (List ℕ)) (ns : List ℤ) (n : ℕ) → length (shown u (map text_row spans)) ≡ n → n ≤ length spans → length ns ≡ n → TellsNulls v (shown u (map text_row spans)) →
    ((k : ℕ) → k < n → get_or ns k (pos 0) ≡ pos (min (length (get_or spans k [])) (2 ^ 63 - 1))) → shown v (map int ns) ≡ map counted_bytes (shown u (map text_row spans))
all_counted_bytes u v spans ns n long there many tells each =
    let xs = shown u (map text_row spans) in
    shows_rows (pos 0) int v ns (map counted_bytes xs) n (subst (HasRows v) long tells.0) many (length-map xs counted_bytes ∙ long)
    (λ k lt. length_row (is_valid v k) (get_or ns k (pos 0)) u spans k (omega arith) (each k lt) (tells.1 k (omega (arith, long))) ∙ sym (get_or-map counted_bytes xs k null null (omega (arith, long))))
