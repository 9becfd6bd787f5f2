-- Rows by their indices.
use Rattle.std.proofs.Common.{◌≡◌, ℕ, ◌+◌, ◌<◌, ◌≤◌, zero, suc, List, [], ◌∷◌, ◌++◌, map, length, get_or, take, refl, sym, ap, ◌∙◌, arith, Bool, true, false, ⊎_elim, ℤ, pos, Result, Ok, Err, IfOk}
use Rattle.std.specs.Prelude.{if◌then◌else◌, None, cond}
use Rattle.std.proofs.Math.ListN.{replicate}
use Rattle.std.specs.List.{filter, range_with_len}
use Rattle.std.proofs.lemmas.Bool.{cases_lt, false≢true}
use Rattle.std.proofs.lemmas.List.Elements.{filter-append, filter_passes}
use Rattle.std.proofs.lemmas.List.FromFn.{length-range_with_len, length-map-range_with_len, get_or-map-range_with_len, map-range_with_len_more}
use Rattle.std.proofs.lemmas.List.{append-nil, map-id, get_or_past, length-map, get_or-map, map_more, ext_get_or, get_or-replicate, length-replicate}
use Rattle.vx_value.specs.Fields.{data_of}
use Rattle.vx_value.specs.StructColumns.{row_at, struct_at}
use Rattle.vx_value.specs.Types.{LogicalType, Datum, null, struct_of}
use Rattle.vx_value.specs.Fits.{fits}
use Rattle.vx_value.specs.Columns.{first_misfit}
use Rattle.vx_value.proofs.Lists.{fits_at}
use Rattle.vx_array.specs.declared.validity.Validity.{Validity}
use Rattle.vx_array.specs.declared.validity.Validity.TheVariants.{All, Nothing, Rows}
use Rattle.vx_array.specs.Rows.{structs_from}
use Rattle.vx_array.specs.Shown.{is_valid, shown, shown_count}
use Rattle.vx_array.proofs.Mapped.{map_map, map_same}
use Rattle.vx_array.proofs.Masked.{get_or-shown, length-shown}
use Rattle.vx_array_build.proofs.Made.{no_misfits}
use Rattle.vx_array_build.specs.Taken.{rows_at, AreWithin, IsTaken, true_rows}

pub length-rows_at : (rows : List Datum) (indices : List ℕ) → length (rows_at rows indices) ≡ length indices
length-rows_at rows indices = length-map indices (λ i. get_or rows i null)

pub get_or-rows_at : (rows : List Datum) (indices : List ℕ) (k : ℕ) → k < length indices → get_or (rows_at rows indices) k null ≡ get_or rows (get_or indices k 0) null
get_or-rows_at rows indices k lt = get_or-map (λ i. get_or rows i null) indices k 0 null lt

-- rows of a type are of the type where they are taken
pub taken_fit : (t : LogicalType) (rows : List Datum) (indices : List ℕ) → first_misfit t rows ≡ None → AreWithin indices (length rows) → first_misfit t (rows_at rows indices) ≡ None
taken_fit t rows indices fit within =
    no_misfits t (rows_at rows indices) (λ k lt. let low : k < length indices = omega (arith, length-rows_at rows indices) in
    ap (λ d. fits d t) (get_or-rows_at rows indices k low) ∙ fits_at t rows (get_or indices k 0) null fit (within k low))

no_more : (v : Validity) (n : ℕ) → shown_count v n ≤ n
no_more All n = omega arith
no_more Nothing n = omega arith
no_more (Rows bits) n = omega arith

-- indices of rows that are shown are indices of the values
pub among : {A : Type 0} (f : A → Datum) (v : Validity) (xs : List A) (ls : List Datum) (indices : List ℕ) → ls ≡ shown v (map f xs) → AreWithin indices (length ls) → AreWithin indices (length xs)
among f v xs ls indices is within k low = omega (arith, within k low, ap length is, length-shown v (map f xs), length-map xs f, no_more v (length (map f xs)))

-- values that are shown
pub shown_taken : (v w : Validity) (ds es : List Datum) (indices : List ℕ) (ls : List Datum) → ls ≡ shown v ds → IsTaken v indices w → length es ≡ length indices → ((k : ℕ) → k < length indices → get_or es k null ≡ get_or ds (get_or indices k 0) null) → shown w es ≡ rows_at ls indices
shown_taken v w ds es indices ls is valid long each =
    ext_get_or null (shown w es) (rows_at ls indices) (count ∙ sym (length-rows_at ls indices))
    (λ k lt. let low : k < length indices = omega (arith, count) in
    get_or-shown w es k ∙ ap (λ b. if b then get_or es k null else null) (valid.same k low) ∙ ap (λ d. if is_valid v (get_or indices k 0) then d else null) (each k low)
    ∙ sym (get_or-shown v ds (get_or indices k 0)) ∙ ap (λ l. get_or l (get_or indices k 0) null) (sym is) ∙ sym (get_or-rows_at ls indices k low))
  where
    count : length (shown w es) ≡ length indices
    count = length-shown w es ∙ ap (shown_count w) long ∙ valid.long

-- values that are made of items
pub made_taken : {A : Type 0} (f : A → Datum) (v w : Validity) (xs ys : List A) (indices : List ℕ) (d : A) (ls : List Datum) → ls ≡ shown v (map f xs) → AreWithin indices (length ls) → IsTaken v indices w → length ys ≡ length indices →
    ((k : ℕ) → k < length indices → get_or ys k d ≡ get_or xs (get_or indices k 0) d) → shown w (map f ys) ≡ rows_at ls indices
made_taken f v w xs ys indices d ls is within valid long each =
    shown_taken v w (map f xs) (map f ys) indices ls is valid (length-map ys f ∙ long)
    (λ k low. let here : k < length ys = omega arith in
    get_or-map f ys k d null here ∙ ap f (each k low) ∙ sym (get_or-map f xs (get_or indices k 0) d null (among f v xs ls indices is within k low)))

-- items that are made one by one
pub made_each : {A : Type 0} (f : A → Datum) (v w : Validity) (xs ys : List A) (indices : List ℕ) (d : A) (ls : List Datum) → ls ≡ shown v (map f xs) → AreWithin indices (length ls) → IsTaken v indices w → ys ≡ map (λ i. get_or xs i d) indices → shown w (map f ys) ≡ rows_at ls indices
made_each f v w xs ys indices d ls is within valid are =
    made_taken f v w xs ys indices d ls is within valid (ap length are ∙ length-map indices (λ i. get_or xs i d)) (λ k low. ap (λ l. get_or l k d) are ∙ get_or-map (λ i. get_or xs i d) indices k 0 d low)

-- one value in all rows
pub same_taken : (n : ℕ) (x : Datum) (indices : List ℕ) (m : ℕ) → m ≡ length indices → AreWithin indices n → replicate m x ≡ rows_at (replicate n x) indices
same_taken n x indices m many within =
    ext_get_or null (replicate m x) (rows_at (replicate n x) indices) (length-replicate m x ∙ many ∙ sym (length-rows_at (replicate n x) indices))
    (λ k lt. let low : k < m = omega (arith, length-replicate m x) in
    get_or-replicate m k x null low ∙ sym (get_or-rows_at (replicate n x) indices k (omega arith) ∙ get_or-replicate n (get_or indices k 0) x null (within k (omega arith))))

-- ---- structs

-- indices of a stretch's rows, behind so many
pub shifted_more : (from : ℕ) (indices out new : List ℕ) (i n : ℕ) → out ≡ map (λ k. from + k) (take i indices) → new ≡ out ++ n ∷ [] → i < length indices → n ≡ from + get_or indices i 0 → new ≡ map (λ k. from + k) (take (i + 1) indices)
shifted_more from indices out new i n so_far pushed lt here =
    pushed ∙ ap (λ l. l ++ n ∷ []) so_far ∙ ap (λ x. map (λ k. from + k) (take i indices) ++ x ∷ []) here ∙ sym (map_more (λ k. from + k) indices i 0 lt)

pub structs_taken : (v w : Validity) (from n m : ℕ) (cs ds : List (List Datum)) (indices shifted : List ℕ) (ls : List Datum) → ls ≡ shown v (structs_from from n cs) → AreWithin indices (length ls) → IsTaken v indices w → m ≡ length indices → shifted ≡ map (λ i. from + i) indices →
    ds ≡ map (λ rows. rows_at rows shifted) cs → shown w (structs_from 0 m ds) ≡ rows_at ls indices
structs_taken v w from n m cs ds indices shifted ls is within valid many moved are =
    shown_taken v w (structs_from from n cs) (structs_from 0 m ds) indices ls is valid (length-map-range_with_len (struct_at ds) 0 m ∙ many)
    (λ k low. get_or-map-range_with_len (struct_at ds) 0 m k k null (omega arith) (omega arith) ∙ ap (λ l. struct_of (data_of l)) (row k low)
    ∙ sym (get_or-map-range_with_len (struct_at cs) from n (get_or indices k 0) (from + get_or indices k 0) null (there k low) refl))
  where
    there : (k : ℕ) → k < length indices → get_or indices k 0 < n
    there k low = omega (arith, among (struct_at cs) v (range_with_len from n) ls indices is within k low, length-range_with_len from n)

    place : (k : ℕ) → k < length indices → get_or shifted k 0 ≡ from + get_or indices k 0
    place k low = ap (λ l. get_or l k 0) moved ∙ get_or-map (λ i. from + i) indices k 0 0 low

    row : (k : ℕ) → k < length indices → row_at k ds ≡ row_at (from + get_or indices k 0) cs
    row k low =
        ap (row_at k) are ∙ map_map (λ rows. get_or rows k null) (λ rows. rows_at rows shifted) cs
        ∙ map_same (λ rows. get_or (rows_at rows shifted) k null) (λ rows. get_or rows (from + get_or indices k 0) null) cs
        (λ rows. get_or-rows_at rows shifted k (omega (arith, ap length moved, length-map indices (λ i. from + i))) ∙ ap (λ i. get_or rows i null) (place k low))

-- ---- loops

pub row_taken : (rows out new : List Datum) (indices : List ℕ) (i : ℕ) (d : Datum) → out ≡ rows_at rows (take i indices) → new ≡ out ++ d ∷ [] → i < length indices → d ≡ get_or rows (get_or indices i 0) null → new ≡ rows_at rows (take (i + 1) indices)
row_taken rows out new indices i d so_far pushed lt here =
    pushed ∙ ap (λ l. l ++ d ∷ []) so_far ∙ ap (λ x. rows_at rows (take i indices) ++ x ∷ []) here ∙ sym (map_more (λ k. get_or rows k null) indices i 0 lt)

-- one more row of bytes
pub span_taken : (rows out new : List (List ℕ)) (indices : List ℕ) (i : ℕ) (row d : List ℕ) → out ≡ map (λ k. get_or rows k d) (take i indices) → new ≡ out ++ row ∷ [] → i < length indices → get_or indices i 0 < length rows → row ≡ get_or rows (get_or indices i 0) row → new ≡ map (λ k. get_or rows k d) (take (i + 1) indices)
span_taken rows out new indices i row d so_far pushed lt within here =
    let n = get_or indices i 0 in
    let same : get_or rows n row ≡ get_or rows n d = ap (λ l. get_or l n row) (sym (map-id rows)) ∙ get_or-map (λ x. x) rows n d row within in
    pushed ∙ ap (λ l. l ++ row ∷ []) so_far ∙ ap (λ x. map (λ k. get_or rows k d) (take i indices) ++ x ∷ []) (here ∙ same) ∙ sym (map_more (λ k. get_or rows k d) indices i 0 lt)

-- numbers that are gathered
some_at : {A : Type 0} (xs : List A) (k : ℕ) → k < length xs → (x : A) × (x ≡ get_or xs k x)
some_at [] k lt = absurd (omega arith)
some_at (x ∷ xs) zero lt = (x, refl)
some_at (x ∷ xs) (suc k) lt = some_at xs k (omega arith)

pub gathered_is : {A : Type 0} (number : A → ℤ) (xs out : List A) (indices : List ℕ) → length out ≡ length indices → AreWithin indices (length xs) → ((k : ℕ) (x : A) → k < length indices → x ≡ get_or out k x → x ≡ get_or xs (get_or indices k 0) x) →
    map number out ≡ map (λ i. get_or (map number xs) i (pos 0)) indices
gathered_is number xs out indices long within each =
    ext_get_or (pos 0) (map number out) (map (λ i. get_or (map number xs) i (pos 0)) indices) (length-map out number ∙ long ∙ sym (length-map indices (λ i. get_or (map number xs) i (pos 0))))
    (λ k lt. let low : k < length indices = omega (arith, length-map out number, long) in
    let found = some_at out k (omega (arith, long)) in
    get_or-map number out k found.0 (pos 0) (omega (arith, long)) ∙ ap number (sym found.1 ∙ each k found.0 low found.1)
    ∙ sym (get_or-map (λ i. get_or (map number xs) i (pos 0)) indices k 0 (pos 0) low ∙ get_or-map number xs (get_or indices k 0) found.0 (pos 0) (within k low)))

-- what is said of what a call gives
pub ok_map : {A E : Type 0} (r : Result A E) (P Q : A → Type 0) → ((x : A) → P x → Q x) → IfOk r P → IfOk r Q
ok_map (Ok x) P Q h p = h x p
ok_map (Err e) P Q h p = tt

-- ---- masks

rows_more : (m : List Bool) (n : ℕ) → filter (λ k. get_or m k false) (range_with_len 0 (n + 1)) ≡ filter (λ k. get_or m k false) (range_with_len 0 n) ++ cond (get_or m n false) (n ∷ []) []
rows_more m n =
    let p = λ (k : ℕ). get_or m k false in
    ap (filter p) (sym (map-id (range_with_len 0 (n + 1))) ∙ map-range_with_len_more (λ k. k) 0 n n (omega arith) ∙ ap (λ l. l ++ n ∷ []) (map-id (range_with_len 0 n))) ∙ filter-append p (range_with_len 0 n) (n ∷ [])

pub row_kept : (m : List Bool) (n : ℕ) (found : List ℕ) → found ≡ filter (λ k. get_or m k false) (range_with_len 0 n) → get_or m n false ≡ false → found ≡ filter (λ k. get_or m k false) (range_with_len 0 (n + 1))
row_kept m n found so_far off = so_far ∙ sym (append-nil _) ∙ sym (rows_more m n ∙ ap (λ b. filter (λ k. get_or m k false) (range_with_len 0 n) ++ cond b (n ∷ []) []) off)

pub row_pushed : (m : List Bool) (n : ℕ) (found new : List ℕ) → found ≡ filter (λ k. get_or m k false) (range_with_len 0 n) → get_or m n false ≡ true → new ≡ found ++ n ∷ [] → new ≡ filter (λ k. get_or m k false) (range_with_len 0 (n + 1))
row_pushed m n found new so_far on pushed =
    pushed ∙ ap (λ l. l ++ n ∷ []) so_far ∙ sym (rows_more m n ∙ ap (λ b. filter (λ k. get_or m k false) (range_with_len 0 n) ++ cond b (n ∷ []) []) on)

-- a row at which a mask is true is one of its rows
true_within : (m : List Bool) (k : ℕ) → get_or m k false ≡ true → k < length m
true_within m k on = ⊎_elim (λ lt. lt) (λ past. absurd (false≢true (sym (get_or_past m k false past) ∙ on))) (cases_lt k (length m))

pub rows_below : (m : List Bool) (n : ℕ) → n ≡ length m → AreWithin (true_rows m) n
rows_below m n many k lt = let on : get_or m (get_or (true_rows m) k 0) false ≡ true = filter_passes (λ i. get_or m i false) (range_with_len 0 (length m)) k 0 lt in omega (arith, true_within m (get_or (true_rows m) k 0) on)
