-- Buffers that are filled from values.
use Rattle.std.proofs.Common.{◌≡◌, ℕ, ◌+◌, ◌<◌, ◌≤◌, List, [], ◌∷◌, ◌++◌, map, length, get_or, take, refl, sym, subst, ap, ◌∙◌, arith, Bool, true, false, below_more, Vec, Global}
use Rattle.std.specs.Prelude.{if◌then◌else◌, not}
use Rattle.std.specs.Borrow.{Bor}
use Rattle.std.specs.List.{range_with_len}
use Rattle.std.specs.declared.sync.Arc.{Arc}
use Rattle.std.proofs.lemmas.List.{length-map, get_or-map, ext_get_or, get_or_append_left, get_or_at, get_or_past, length_push, map-append, take_more}
use Rattle.std.proofs.lemmas.List.FromFn.{length-map-range_with_len, get_or-map-range_with_len, map-range_with_len_more}
use Rattle.vx_value.specs.declared.value.Value.{Value, Struct}
use Rattle.vx_value.specs.Fields.{data_of}
use Rattle.vx_value.specs.Types.{Datum, null, bool, int, float, utf8, bytes, list_of, struct_of, is_null_datum}
use Rattle.vx_value.specs.StructColumns.{row_at, struct_at}
use Rattle.vx_value.specs.Views.{value_of}
use Rattle.vx_array.specs.declared.lanes.Lanes as Kind
use Rattle.vx_array.specs.declared.lanes.Lanes.{Lanes}
use Rattle.vx_array.specs.declared.stretch.Stretch.{Stretch}
use Rattle.vx_array.specs.declared.validity.Validity.{Validity}
use Rattle.vx_array.specs.declared.validity.Validity.TheVariants.{All, Rows}
use Rattle.vx_value.specs.Items.{datum_at, item_at}
use Rattle.vx_array.specs.Rows.{lanes_each, lanes_rows, structs_from}
use Rattle.vx_array.specs.Shown.{is_valid, shown, shown_count}
use Rattle.vx_array.proofs.Held.{rows-Structs}
use Rattle.vx_array.proofs.Mapped.{map_same}
use Rattle.vx_array.proofs.Masked.{get_or-shown, length-shown}
use Rattle.vx_array.proofs.Picked.{datum_at-data}
use Rattle.vx_array.proofs.Reading.{all_rows, value_of-Struct}
use Rattle.vx_array_build.specs.Filled.{HasItems, IsFilled, IsSaid, IsValidity, rows_lent}

-- a value that is lent
pub lent_at : (rows : List (Bor Value)) (i : ℕ) (r : Bor Value) → i < length rows → r ≡ get_or rows i r → value_of r.now ≡ get_or (rows_lent rows) i null
lent_at rows i r lt is = sym (get_or-map (λ v. value_of v.now) rows i r null lt ∙ ap (λ v. value_of v.now) (sym is))

pub lent_long : (rows : List (Bor Value)) → length (rows_lent rows) ≡ length rows
lent_long rows = length-map rows (λ v. value_of v.now)

-- one more value
pub filled_more : (ds rows new : List Datum) (i : ℕ) (d : Datum) → IsFilled ds rows i → new ≡ ds ++ d ∷ [] → (is_null_datum (get_or rows i null) ≡ false → d ≡ get_or rows i null) → IsFilled new rows (i + 1)
filled_more ds rows new i d so_far pushed here = record {
  long = ap length pushed ∙ length_push ds d ∙ ap (λ n. n + 1) so_far.long;
  same = below_more (λ k. is_null_datum (get_or rows k null) ≡ false → get_or new k null ≡ get_or rows k null) i
      (λ k lt there. ap (λ l. get_or l k null) pushed ∙ get_or_append_left ds (d ∷ []) null k (omega (arith, so_far.long)) ∙ so_far.same k lt there)
      (λ there. ap (λ l. get_or l i null) pushed ∙ get_or_at ds d [] null i so_far.long ∙ here there);
}

pub filled_push : {A : Type 0} (f : A → Datum) (xs new : List A) (x : A) (rows : List Datum) (i : ℕ) → IsFilled (map f xs) rows i → new ≡ xs ++ x ∷ [] → (is_null_datum (get_or rows i null) ≡ false → f x ≡ get_or rows i null) → IsFilled (map f new) rows (i + 1)
filled_push f xs new x rows i so_far pushed here = filled_more (map f xs) rows (map f new) i (f x) so_far (ap (map f) pushed ∙ map-append f xs (x ∷ [])) here

-- a value that is said at the loop's row
pub at_row : (rows : List (Bor Value)) (i : ℕ) (r : Bor Value) (d : Datum) → i < length rows → r ≡ get_or rows i r → (is_null_datum (value_of r.now) ≡ false → d ≡ value_of r.now) → is_null_datum (get_or (rows_lent rows) i null) ≡ false → d ≡ get_or (rows_lent rows) i null
at_row rows i r d lt is said there = let here = lent_at rows i r lt is in said (ap is_null_datum here ∙ there) ∙ here

null_is : (d : Datum) → is_null_datum d ≡ true → null ≡ d
null_is null e = refl
null_is (bool b) e = cc
null_is (int z) e = cc
null_is (float x) e = cc
null_is (utf8 s) e = cc
null_is (bytes b) e = cc
null_is (list_of vs) e = cc
null_is (struct_of vs) e = cc

-- values that are shown where the rows aren't null are the rows
pub shown_filled : (v : Validity) (ds rows : List Datum) → IsFilled ds rows (length rows) → IsValidity v rows → shown v ds ≡ rows
shown_filled v ds rows filled valid =
    ext_get_or null (shown v ds) rows count (λ k lt. get_or-shown v ds k ∙ go k (omega (arith, count)) (is_null_datum (get_or rows k null)) refl)
  where
    count : length (shown v ds) ≡ length rows
    count = length-shown v ds ∙ ap (shown_count v) filled.long ∙ valid.long

    go : (k : ℕ) → k < length rows → (b : Bool) → is_null_datum (get_or rows k null) ≡ b → (if is_valid v k then get_or ds k null else null) ≡ get_or rows k null
    go k lt true e = ap (λ b. if b then get_or ds k null else null) (valid.same k lt ∙ ap not e) ∙ null_is (get_or rows k null) e
    go k lt false e = ap (λ b. if b then get_or ds k null else null) (valid.same k lt ∙ ap not e) ∙ filled.same k lt e

-- lanes that show such values
pub lanes_filled : (v : Validity) (ds : List Datum) (lent : List (Bor Value)) (out : List Datum) → out ≡ shown v ds → IsFilled ds (rows_lent lent) (length lent) → IsValidity v (rows_lent lent) → out ≡ rows_lent lent
lanes_filled v ds lent out is filled valid = is ∙ shown_filled v ds (rows_lent lent) (subst (IsFilled ds (rows_lent lent)) (sym (lent_long lent)) filled) valid

-- ---- structs

-- a struct is that of its items
pub has_items : (v : Vec Value Global) (n : ℕ) → n ≡ length v.items → HasItems n (value_of (Struct v))
has_items v n many there =
    let ds = map value_of v.items in
    let whole : n ≡ length ds = many ∙ sym (length-map v.items value_of) in
    let is = value_of-Struct v in
    is ∙ sym (ap (λ d. struct_of (data_of (map (λ j. item_at j d) (range_with_len 0 n)))) is ∙ ap (λ l. struct_of (data_of l)) (map_same (λ j. datum_at j (data_of ds)) (λ j. get_or ds j null) (range_with_len 0 n) (datum_at-data ds) ∙ all_rows ds n whole))

-- an item that is there, and one that isn't
pub item_there : (v : Vec Value Global) (j : ℕ) (x : Value) → j < length v.items → x ≡ get_or v.items j x → value_of x ≡ item_at j (value_of (Struct v))
item_there v j x lt is = sym (ap (item_at j) (value_of-Struct v) ∙ datum_at-data (map value_of v.items) j ∙ get_or-map value_of v.items j x null lt ∙ ap value_of (sym is))

pub item_missing : (v : Vec Value Global) (j : ℕ) → length v.items ≤ j → null ≡ item_at j (value_of (Struct v))
item_missing v j past = sym (ap (item_at j) (value_of-Struct v) ∙ datum_at-data (map value_of v.items) j ∙ get_or_past (map value_of v.items) j null (omega (arith, length-map v.items value_of)))

-- the row of the columns of items
row_items : (rows : List Datum) (k : ℕ) (js : List ℕ) → k < length rows → row_at k (map (λ j. map (item_at j) rows) js) ≡ map (λ j. item_at j (get_or rows k null)) js
row_items rows k [] lt = refl
row_items rows k (j ∷ js) lt = ap (λ l. get_or (map (item_at j) rows) k null ∷ l) (row_items rows k js lt) ∙ ap (λ d. d ∷ map (λ i. item_at i (get_or rows k null)) js) (get_or-map (item_at j) rows k null null lt)

-- the structs of the columns of items
pub structs_filled : (rows : List Datum) (n count : ℕ) → n ≡ length rows → ((k : ℕ) → k < n → HasItems count (get_or rows k null)) → IsFilled (structs_from 0 n (map (λ j. map (item_at j) rows) (range_with_len 0 count))) rows (length rows)
structs_filled rows n count many whole =
    let cs = map (λ j. map (item_at j) rows) (range_with_len 0 count) in
    record {
      long = length-map-range_with_len (struct_at cs) 0 n ∙ many;
      same = λ k lt there. let low : k < n = omega arith in
          get_or-map-range_with_len (struct_at cs) 0 n k k null low (omega arith) ∙ ap (λ l. struct_of (data_of l)) (row_items rows k (range_with_len 0 count) lt) ∙ sym (whole k low there);
    }

pub structs_are : (fs : Arc (Vec Lanes Global) Global) (s : Stretch) (v : Validity) (rows : List Datum) (count : ℕ) → s.from ≡ 0 → s.len ≡ length rows → lanes_each fs.value.items ≡ map (λ j. map (item_at j) rows) (range_with_len 0 count) →
    ((k : ℕ) → k < length rows → HasItems count (get_or rows k null)) → IsValidity v rows → lanes_rows (Kind.Structs fs s v) ≡ rows
structs_are fs s v rows count first long each whole valid =
    rows-Structs fs s v ∙ ap (λ a. shown v (structs_from a s.len (lanes_each fs.value.items))) first ∙ ap (λ n. shown v (structs_from 0 n (lanes_each fs.value.items))) long ∙ ap (λ cs. shown v (structs_from 0 (length rows) cs)) each
    ∙ shown_filled v (structs_from 0 (length rows) (map (λ j. map (item_at j) rows) (range_with_len 0 count))) rows (structs_filled rows (length rows) count refl whole) valid

-- one more column of items
pub lanes_more : (rows : List Datum) (out new : List Lanes) (j : ℕ) (l : Lanes) → lanes_each out ≡ map (λ i. map (item_at i) rows) (range_with_len 0 j) → new ≡ out ++ l ∷ [] → lanes_rows l ≡ map (item_at j) rows → lanes_each new ≡ map (λ i. map (item_at i) rows) (range_with_len 0 (j + 1))
lanes_more rows out new j l so_far pushed here =
    ap lanes_each pushed ∙ map-append lanes_rows out (l ∷ []) ∙ ap (λ ls. ls ++ lanes_rows l ∷ []) so_far ∙ ap (λ c. map (λ i. map (item_at i) rows) (range_with_len 0 j) ++ c ∷ []) here ∙ sym (map-range_with_len_more (λ i. map (item_at i) rows) 0 j j (omega arith))

-- one more value that is lent
pub lent_more : (f : Datum → Datum) (rows : List Datum) (out new : List (Bor Value)) (i : ℕ) (r : Bor Value) → rows_lent out ≡ map f (take i rows) → new ≡ out ++ r ∷ [] → i < length rows → value_of r.now ≡ f (get_or rows i null) → rows_lent new ≡ map f (take (i + 1) rows)
lent_more f rows out new i r so_far pushed lt here =
    ap rows_lent pushed ∙ map-append (λ v. value_of v.now) out (r ∷ []) ∙ ap (λ ds. ds ++ value_of r.now ∷ []) so_far ∙ ap (λ d. map f (take i rows) ++ d ∷ []) here
    ∙ sym (ap (map f) (take_more rows i null lt) ∙ map-append f (take i rows) (get_or rows i null ∷ []))

-- all values
pub filled_end : (ds es rows : List Datum) (i n : ℕ) → IsFilled ds rows i → es ≡ ds → i ≡ n → IsFilled es rows n
filled_end ds es rows i n so_far is all = record {
  long = ap length is ∙ so_far.long ∙ all;
  same = λ k lt there. ap (λ l. get_or l k null) is ∙ so_far.same k (omega arith) there;
}

-- no value yet
pub filled_none : (rows : List Datum) → IsFilled [] rows 0
filled_none rows = record { long = refl; same = λ k lt there. absurd (omega arith) }

-- ---- validities

pub valid_push : (rows : List (Bor Value)) (valid new : List Bool) (i : ℕ) (r : Bor Value) (b : Bool) → length valid ≡ i → ((k : ℕ) → k < i → get_or valid k false ≡ not (is_null_datum (get_or (rows_lent rows) k null))) → new ≡ valid ++ not b ∷ [] → i < length rows → r ≡ get_or rows i r →
    b ≡ is_null_datum (value_of r.now) → IsSaid new (rows_lent rows) (i + 1)
valid_push rows valid new i r b long same pushed lt is said = record {
  long = ap length pushed ∙ length_push valid (not b) ∙ ap (λ n. n + 1) long;
  same = below_more (λ k. get_or new k false ≡ not (is_null_datum (get_or (rows_lent rows) k null))) i
      (λ k low. ap (λ l. get_or l k false) pushed ∙ get_or_append_left valid (not b ∷ []) false k (omega (arith, long)) ∙ same k low)
      (ap (λ l. get_or l i false) pushed ∙ get_or_at valid (not b) [] false i long ∙ ap not (said ∙ ap is_null_datum (lent_at rows i r lt is)));
}

pub all_valid : (rows : List (Bor Value)) → ((k : ℕ) → k < length rows → is_null_datum (get_or (rows_lent rows) k null) ≡ false) → IsValidity All (rows_lent rows)
all_valid rows none = record { long = refl; same = λ k lt. sym (ap not (none k (omega (arith, lent_long rows)))) }

pub valid_end : (rows : List (Bor Value)) (valid bits : List Bool) (i : ℕ) → length valid ≡ i → ((k : ℕ) → k < i → get_or valid k false ≡ not (is_null_datum (get_or (rows_lent rows) k null))) → bits ≡ valid → i ≡ length rows → IsValidity (Rows bits) (rows_lent rows)
valid_end rows valid bits i long same is all = record {
  long = omega (arith, ap length is, long, lent_long rows);
  same = λ k lt. ap (λ l. get_or l k false) is ∙ same k (omega (arith, lent_long rows));
}
