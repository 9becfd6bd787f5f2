-- Columns that are read at once.
use Rattle.std.proofs.Common.{◌≡◌, ℕ, zero, suc, ◌+◌, ◌*◌, ◌<◌, ◌≤◌, List, [], ◌∷◌, ◌++◌, length, get_or, take, map, refl, sym, ap, ◌∙◌, subst, arith, add-one, below_more, Bool, true, false, ℤ, pos}
use Rattle.std.specs.Prelude.{Result, Ok, Err, IfOk, IfSome, Option, Some, None, is_some, if◌then◌else◌}
use Rattle.std.proofs.Math.Seq.{take-length}
use Rattle.std.proofs.Math.ListN.{get_or-append}
use Rattle.std.proofs.Math.Seq.{get_or-append_seam}
use Rattle.std.proofs.lemmas.List.{get_or-map, length-append, length-map, map-append, take_more}
use Rattle.std.specs.Option.{option_map}
use Rattle.std.proofs.lemmas.Bool.{eq-eqb}
use Rattle.std.proofs.lemmas.List.FromFn.{length-map-range_with_len, get_or-map-range_with_len}
use Rattle.vx_dtype.specs.Fields.{fields_named}
use Rattle.vx_dtype.specs.declared.dtype.DType.{DType}
use Rattle.vx_dtype.specs.declared.dtype.PType.{PType}
use Rattle.vx_dtype.specs.declared.dtype.PType.TheVariants.{U32, U64}
use Rattle.vx_dtype.specs.declared.float_type.FloatType.{FloatType}
use Rattle.vx_dtype.specs.declared.float_type.FloatType.TheVariants.{F32, F64}
use Rattle.vx_floats.specs.declared.float.Float.{Float}
use Rattle.vx_value.specs.Types.{Name, LogicalType, ty, Shape, atomic, truth, number, floating, decimals, date, timestamp, text, octets, list, fixed, struct, shape_of, is_nullable, Fields, Datum, null, bool, int, float, struct_of}
use Rattle.vx_value.specs.Fields.{data_of}
use Rattle.vx_value.specs.Fits.{Fits}
use Rattle.vx_value.specs.Columns.{Batch, batch, first_misfit}
use Rattle.vx_value.specs.StructColumns.{all_long, row_at, rows_in, struct_at, struct_rows, struct_type, types_in}
use Rattle.vx_value.specs.Views.{fields_view, type_of}
use Rattle.vx_value.proofs.Lists.{fits_at}
use Rattle.vx_array.specs.declared.validity.Validity.{Validity}
use Rattle.vx_array.specs.Shown as shown
use Rattle.vx_array.specs.Shown.{shown_count}
use Rattle.vx_array.proofs.Masked.{get_or-shown, length-shown}
use Rattle.vx_array_build.specs.Built.{column_by, shown_by, structs_by}
use Rattle.vx_array_build.specs.FloatBits.{float_row}
use Rattle.vx_array_build.specs.Lanes.{lane_of}
use Rattle.vx_data_buffers.specs.Results.{and_then, and_so, each_from}
use Rattle.vx_data_buffers.specs.Bytes.{bits_type, bytes_at, float_at, float_of, number_at, number_of, part}
use Rattle.vx_data_buffers.specs.Layout.{buffer_count, found, unless_null, value_at, present_at}
use Rattle.vx_data_buffers.specs.Rows.{column_said, row_of}
use Rattle.vx_data_buffers.specs.Arrays.{AreBits, AreNumbers, HasFloats, HasNumbers, HaveFields, IsColumn, Tells, if_nullable}
use Rattle.vx_data_buffers.specs.declared.fault.Fault.{Fault}
use Rattle.vx_data_buffers.proofs.Runs.{one_more}

-- the first results, where each is the item of a list
each_taken : {A E : Type 0} (f : ℕ → Result A E) (xs : List A) (d : A) → ((i : ℕ) → i < length xs → f i ≡ Ok (get_or xs i d)) → (n : ℕ) → n ≤ length xs → each_from f 0 n ≡ Ok (take n xs)
each_taken f xs d each zero h = refl
each_taken f xs d each (suc n) h =
    ap (each_from f 0) (sym (add-one n)) ∙ one_more f 0 n (take n xs) (get_or xs n d) (each_taken f xs d each n (omega arith)) (ap f (omega arith) ∙ each n (omega arith)) ∙ ap Ok (sym (take_more xs n d (omega arith)) ∙ ap (λ m. take m xs) (add-one n))

row_whole : (buffers : List (List ℕ)) (t : LogicalType) (i : ℕ) (d : Datum) → value_at buffers t 0 i ≡ Ok d → Fits d t → row_of buffers t i ≡ Ok d
row_whole buffers t i d read fit = rw (read, fit)

-- a column that is read at once is the one that is read row by row
pub said_whole : (buffers : List (List ℕ)) (t : LogicalType) (rows : ℕ) (b : Batch) → length buffers ≡ buffer_count t → first_misfit b.type b.rows ≡ None → IsColumn buffers t 0 rows b → column_said buffers t rows ≡ Ok b
said_whole buffers t rows b many none column =
    let fit : (i : ℕ) → i < length b.rows → Fits (get_or b.rows i null) t = λ i h. subst (λ s. Fits (get_or b.rows i null) s) column.type (fits_at b.type b.rows i null none h) in
    let each : (i : ℕ) → i < length b.rows → row_of buffers t i ≡ Ok (get_or b.rows i null) = λ i h. row_whole buffers t i (get_or b.rows i null) (column.each i (omega (arith, column.count))) (fit i h) in
    let whole : each_from (row_of buffers t) 0 rows ≡ Ok b.rows =
    ap (each_from (row_of buffers t) 0) (sym column.count) ∙ each_taken (row_of buffers t) b.rows null each (length b.rows) (omega arith) ∙ ap Ok (take-length b.rows) in
    rw (eq-eqb (length buffers) (buffer_count t) many, whole) (ap (λ s. Ok (batch s b.rows)) (sym column.type))

-- a row, null or not, by what the validity says
shown_row : (valid : Bool) (r : Result Datum Fault) (d : Datum) → r ≡ Ok d → unless_null valid r ≡ Ok (if valid then d else null)
shown_row true r d read = read
shown_row false r d read = refl

-- a column, by its validity and what is read where that is not null
pub column_read : (buffers : List (List ℕ)) (s : Shape) (at rows : ℕ) (n : Bool) (v : Validity) (ds : List Datum) → Tells buffers at rows n v → length ds ≡ rows → ((i : ℕ) → i < rows → present_at buffers s (at + 1) i ≡ Ok (get_or ds i null))
    → IsColumn buffers (ty s n) at rows (column_by s (if_nullable n v) ds)
column_read buffers s at rows true v ds tells long each = record {
  type = refl;
  count = length-shown v ds ∙ ap (shown_count v) long ∙ tells.count;
  each = λ i h. ap (λ r. and_then r (λ valid. unless_null valid (present_at buffers s (at + 1) i))) (tells.each i h)
      ∙ shown_row (shown.is_valid v i) (present_at buffers s (at + 1) i) (get_or ds i null) (each i h)
      ∙ ap Ok (sym (get_or-shown v ds i));
}
column_read buffers s at rows false v ds tells long each = record {
  type = refl;
  count = long;
  each = λ i h. ap (λ r. and_then r (λ valid. unless_null valid (present_at buffers s (at + 1) i))) (tells.each i h ∙ ap Ok (tells.full refl i h)) ∙ each i h;
}

-- of truth values
pub truths_read : (buffers : List (List ℕ)) (at rows : ℕ) (n : Bool) (v : Validity) (bits : List Bool) → Tells buffers at rows n v → AreBits (bytes_at buffers (at + 1)) rows bits
    → IsColumn buffers (ty (atomic truth) n) at rows (column_by (atomic truth) (if_nullable n v) (map bool bits))
truths_read buffers at rows n v bits tells are =
    column_read buffers (atomic truth) at rows n v (map bool bits) tells (length-map bits bool ∙ are.0)
    (λ i h. ap (λ r. and_so (found (at + 1) r) bool) (are.1 i h) ∙ ap Ok (sym (get_or-map bool bits i false null (omega (arith, are.0)))))

-- a type is its shape and whether it is nullable
pub as_shape : (t : LogicalType) → t ≡ ty (shape_of t) (is_nullable t)
as_shape (ty s n) = refl

-- what is read of a type whose rows lie in buffers of numbers
pub lane_read : (buffers : List (List ℕ)) (s : Shape) (p : PType) (at i : ℕ) → lane_of s ≡ Some p → present_at buffers s at i ≡ and_so (found at (number_at p (bytes_at buffers at) i)) int
lane_read buffers (atomic (number q)) p at i is = cc
lane_read buffers (atomic date) p at i is = cc
lane_read buffers (atomic (timestamp u z)) p at i is = cc
lane_read buffers (atomic truth) p at i is = cc
lane_read buffers (atomic (floating f)) p at i is = cc
lane_read buffers (atomic (decimals q r)) p at i is = cc
lane_read buffers (atomic text) p at i is = cc
lane_read buffers (atomic octets) p at i is = cc
lane_read buffers (list t) p at i is = cc
lane_read buffers (fixed t k) p at i is = cc
lane_read buffers (struct fs) p at i is = cc

-- of such a type
pub numbers_read : (buffers : List (List ℕ)) (s : Shape) (at rows : ℕ) (n : Bool) (v : Validity) (a : Batch) → Tells buffers at rows n v → HasNumbers (bytes_at buffers (at + 1)) s rows (if_nullable n v) a → IsColumn buffers (ty s n) at rows a
numbers_read buffers s at rows n v a tells (ns, (p, lane, are), is) =
    subst (IsColumn buffers (ty s n) at rows) (sym is)
    (column_read buffers s at rows n v (map int ns) tells (length-map ns int ∙ are.0)
    (λ i h. lane_read buffers s p (at + 1) i lane ∙ ap (λ r. and_so (found (at + 1) r) int) (are.1 i h) ∙ ap Ok (sym (get_or-map int ns i (pos 0) null (omega (arith, are.0))))))

-- what is read of a floating-point number, by the number that has its bits
pub bits_read : (f : FloatType) (bytes : List ℕ) (i : ℕ) (z : ℤ) → number_at (bits_type f) bytes i ≡ Some z → (x : Float) × (float_at f bytes i ≡ Some x) × (float x ≡ float_row f (int z))
bits_read F32 bytes i z is = go (part bytes (i * 4) 4) is
  where
    go : (r : Option (List ℕ)) → option_map (number_of U32) r ≡ Some z → (x : Float) × (option_map (float_of F32) r ≡ Some x) × (float x ≡ float_row F32 (int z))
    go (Some b) e = let same : number_of U32 b ≡ z = cc in (float_of F32 b, refl, ap (λ y. float_row F32 (int y)) same)
    go None e = cc
bits_read F64 bytes i z is = go (part bytes (i * 8) 8) is
  where
    go : (r : Option (List ℕ)) → option_map (number_of U64) r ≡ Some z → (x : Float) × (option_map (float_of F64) r ≡ Some x) × (float x ≡ float_row F64 (int z))
    go (Some b) e = let same : number_of U64 b ≡ z = cc in (float_of F64 b, refl, ap (λ y. float_row F64 (int y)) same)
    go None e = cc

-- of floating-point numbers
pub floats_read : (buffers : List (List ℕ)) (f : FloatType) (at rows : ℕ) (n : Bool) (v : Validity) (a : Batch) → Tells buffers at rows n v → HasFloats (bytes_at buffers (at + 1)) f (bits_type f) rows (if_nullable n v) a → IsColumn buffers (ty (atomic (floating f)) n) at rows a
floats_read buffers f at rows n v a tells (ns, are, is) =
    subst (IsColumn buffers (ty (atomic (floating f)) n) at rows) (sym is)
    (column_read buffers (atomic (floating f)) at rows n v (map (float_row f) (map int ns)) tells (length-map (map int ns) (float_row f) ∙ length-map ns int ∙ are.0)
    (λ i h. let (x, read, told) = bits_read f (bytes_at buffers (at + 1)) i (get_or ns i (pos 0)) (are.1 i h) in
    ap (λ r. and_so (found (at + 1) r) float) read
    ∙ ap Ok (told ∙ sym (get_or-map (float_row f) (map int ns) i null null (omega (arith, are.0, length-map ns int)) ∙ ap (float_row f) (get_or-map int ns i (pos 0) null (omega (arith, are.0)))))))

some_if : (n : Bool) (v : Validity) → is_some (if_nullable n v) ≡ n
some_if true v = refl
some_if false v = refl

-- what is made of columns that are all as long as the structs
made : (names : List Name) (cs : List Batch) (rows : ℕ) (v : Option Validity) (a : Batch) → structs_by names cs rows v ≡ Ok a → a ≡ batch (struct_type names cs (is_some v)) (shown_by v (struct_rows rows (rows_in cs)))
made names cs rows v a is = go (all_long rows cs) refl is
  where
    go : (b : Bool) → all_long rows cs ≡ b → structs_by names cs rows v ≡ Ok a → a ≡ batch (struct_type names cs (is_some v)) (shown_by v (struct_rows rows (rows_in cs)))
    go true e h = cc
    go false e h = cc

-- of structs
pub structs_read : (buffers : List (List ℕ)) (fs : Fields) (names : List Name) (cs : List Batch) (at rows : ℕ) (n : Bool) (v : Validity) (a : Batch) → Tells buffers at rows n v → HaveFields buffers fs (at + 1) rows cs → fields_named names (types_in cs) ≡ fs
    → structs_by names cs rows (if_nullable n v) ≡ Ok a → IsColumn buffers (ty (struct fs) n) at rows a
structs_read buffers fs names cs at rows n v a tells have named is =
    let ds = struct_rows rows (rows_in cs) in
    let read : IsColumn buffers (ty (struct fs) n) at rows (column_by (struct fs) (if_nullable n v) ds) =
    column_read buffers (struct fs) at rows n v ds tells (length-map-range_with_len (struct_at (rows_in cs)) 0 rows)
    (λ i h. ap (λ r. and_so r (λ vs. struct_of (data_of vs))) (have i h) ∙ ap Ok (sym (get_or-map-range_with_len (struct_at (rows_in cs)) 0 rows i i null h (omega arith)))) in
    subst (IsColumn buffers (ty (struct fs) n) at rows) (sym (made names cs rows (if_nullable n v) a is ∙ ap (λ gs. batch (ty (struct gs) (is_some (if_nullable n v))) (shown_by (if_nullable n v) ds)) named)) read

-- types beyond the names are of no field
pub view_taken : (names : List Name) (types : List DType) (n : ℕ) → length names ≤ n → fields_view names (take n types) ≡ fields_view names types
view_taken [] types n h = refl
view_taken (a ∷ names) types zero h = absurd (omega arith)
view_taken (a ∷ names) [] (suc n) h = refl
view_taken (a ∷ names) (t ∷ types) (suc n) h = rw (view_taken names types n (omega arith))

-- the types of one more column
pub types_grown : (types : List DType) (k : ℕ) (t : DType) (cs after : List Batch) (c : Batch) → k < length types → t ≡ get_or types k t → types_in cs ≡ map type_of (take k types) → c.type ≡ type_of t → after ≡ cs ++ c ∷ []
    → types_in after ≡ map type_of (take (k + 1) types)
types_grown types k t cs after c lt is so_far typed grown =
    ap types_in grown ∙ map-append (λ (b : Batch). b.type) cs (c ∷ []) ∙ ap (λ ts. ts ++ c.type ∷ []) so_far ∙ ap (λ s. map type_of (take k types) ++ s ∷ []) (typed ∙ ap type_of is)
    ∙ sym (ap (map type_of) (take_more types k t lt) ∙ map-append type_of (take k types) (get_or types k t ∷ []))

-- one more column of a row
pub row_grown : (i : ℕ) (cs : List Batch) (c : Batch) → row_at i (rows_in (cs ++ c ∷ [])) ≡ row_at i (rows_in cs) ++ get_or c.rows i null ∷ []
row_grown i cs c = ap (row_at i) (map-append (λ (b : Batch). b.rows) cs (c ∷ [])) ∙ map-append (λ rows. get_or rows i null) (rows_in cs) (c.rows ∷ [])

-- what is found is as well what follows of it
pub found_so : {A E : Type 0} {P Q : A → Type 0} (r : Result (Option A) E) → ((a : A) → P a → Q a) → IfOk r (λ found. IfSome found P) → IfOk r (λ found. IfSome found Q)
found_so (Ok (Some a)) f h = f a h
found_so (Ok None) f h = h
found_so (Err e) f h = h

-- one more number
pub number_more : {A : Type 0} (f : A → ℤ) (p : PType) (bytes : List ℕ) (xs ys : List A) (x : A) (i : ℕ) → AreNumbers p bytes i (map f xs) → number_at p bytes i ≡ Some (f x) → ys ≡ xs ++ x ∷ [] → AreNumbers p bytes (i + 1) (map f ys)
number_more f p bytes xs ys x i so_far here grown =
    let long : length xs ≡ i = sym (length-map xs f) ∙ so_far.0 in
    let whole : map f ys ≡ map f xs ++ f x ∷ [] = ap (map f) grown ∙ map-append f xs (x ∷ []) in
    let last : get_or (map f ys) i (pos 0) ≡ f x = ap (λ l. get_or l i (pos 0)) whole ∙ ap (λ k. get_or (map f xs ++ f x ∷ []) k (pos 0)) (sym so_far.0) ∙ get_or-append_seam (map f xs) (f x) [] (pos 0) in (
      ap length whole ∙ length-append (map f xs) (f x ∷ []) ∙ ap (λ n. n + 1) so_far.0,
      λ k h. below_more (λ j. number_at p bytes j ≡ Some (get_or (map f ys) j (pos 0))) i
          (λ j low. so_far.1 j low ∙ ap Some (sym (ap (λ l. get_or l j (pos 0)) whole ∙ get_or-append (map f xs) (f x ∷ []) (pos 0) j (omega (arith, so_far.0)))))
          (here ∙ ap Some (sym last)) k h,
    )
