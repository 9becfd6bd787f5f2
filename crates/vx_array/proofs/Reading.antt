-- Rows that are read one by one.
use Rattle.std.proofs.Common.{◌≡◌, ℕ, ◌+◌, ◌<◌, ◌≤◌, List, [], ◌∷◌, ◌++◌, map, length, get_or, take, drop, length-take, length-drop, refl, sym, ap, ◌∙◌, arith, rules, Bool, true, false, Vec, ℤ}
use Rattle.std.specs.Prelude.{◌&&◌, nat_lt, string_bytes, if◌then◌else◌}
use Rattle.std.specs.Str.{IsUtf8, is_utf8}
use Rattle.std.specs.declared.string.String.{String as Text}
use Rattle.std.proofs.lemmas.Str.{IsUtf8-from_is_utf8, is_utf8-from_IsUtf8}
use Rattle.vx_array.specs.Kinds.{text_row}
use Rattle.std.specs.List.{range_with_len}
use Rattle.std.specs.declared.alloc.Global.{Global}
use Rattle.std.proofs.lemmas.List.{get_or-take, get_or-drop, map-append, ext_get_or, take_more}
use Rattle.std.proofs.lemmas.List.FromFn.{length-range_with_len, get_or-range_with_len, length-map-range_with_len, get_or-map-range_with_len, map-range_with_len_more}
use Rattle.vx_floats.specs.declared.float.Float.{Float as Real}
use Rattle.vx_value.specs.declared.value.Value.{Value, Struct, Null, Bool as Truth, Int, Float, Utf8, Binary, the_lemmas}
use Rattle.vx_value.specs.Fields.{data_of}
use Rattle.vx_value.specs.StructColumns.{row_at, struct_at}
use Rattle.vx_value.specs.Types.{Datum, null, bool, int, float, bytes, struct_of, utf8}
use Rattle.vx_value.specs.Views.{value_of}
use Rattle.vx_array.specs.declared.lanes.Lanes.{Lanes}
use Rattle.vx_array.specs.declared.validity.Validity.{Validity}
use Rattle.vx_array.specs.Rows.{lanes_rows, lanes_each, structs_from}
use Rattle.vx_array.specs.Shown.{is_valid, shown}
use Rattle.vx_array.proofs.Masked.{row_there, row_missing, both_so}

pub value_of-Struct : (v : Vec Value Global) → value_of (Struct v) ≡ struct_of (data_of (map value_of v.items))
value_of-Struct v = search (rules, the_lemmas)

pub value_of-Null : value_of Null ≡ null
value_of-Null = search (rules, the_lemmas)

pub value_of-Bool : (b : Bool) → value_of (Truth b) ≡ bool b
value_of-Bool b = search (rules, the_lemmas)

pub value_of-Int : (z : ℤ) → value_of (Int z) ≡ int z
value_of-Int z = search (rules, the_lemmas)

pub value_of-Float : (x : Real) → value_of (Float x) ≡ float x
value_of-Float x = search (rules, the_lemmas)

pub value_of-Binary : (v : Vec ℕ Global) → value_of (Binary v) ≡ bytes v.items
value_of-Binary v = search (rules, the_lemmas)

-- one more item of a row
pub row_more : (i : ℕ) (fs : List Lanes) (items new : List Value) (k : ℕ) (f : Lanes) (v : Value) → map value_of items ≡ row_at i (lanes_each (take k fs)) → new ≡ items ++ v ∷ [] → k < length fs → f ≡ get_or fs k f →
    value_of v ≡ get_or (lanes_rows f) i null → map value_of new ≡ row_at i (lanes_each (take (k + 1) fs))
row_more i fs items new k f v so_far pushed lt is here =
    let h = λ (l : Lanes). get_or (lanes_rows l) i null in
    let split : row_at i (lanes_each (take (k + 1) fs)) ≡ row_at i (lanes_each (take k fs)) ++ h f ∷ [] =
    ap (λ l. row_at i (lanes_each l)) (take_more fs k f lt ∙ ap (λ x. take k fs ++ x ∷ []) (sym is)) ∙ ap (row_at i) (map-append lanes_rows (take k fs) (f ∷ [])) ∙ map-append (λ c. get_or c i null) (lanes_each (take k fs)) (lanes_rows f ∷ []) in
    ap (map value_of) pushed ∙ map-append value_of items (v ∷ []) ∙ ap (λ l. l ++ value_of v ∷ []) so_far ∙ ap (λ d. row_at i (lanes_each (take k fs)) ++ d ∷ []) here ∙ sym split

-- a struct that is there
pub struct_there : (v : Validity) (from n : ℕ) (cs : List (List Datum)) (i : ℕ) → (nat_lt i n && is_valid v i) ≡ true → struct_at cs (from + i) ≡ get_or (shown v (structs_from from n cs)) i null
struct_there v from n cs i both =
    let so = both_so v n i both in
    row_there (struct_at cs) v (range_with_len from n) i (from + i) 0 (omega (arith, length-range_with_len from n, so.0)) so.1 (sym (get_or-range_with_len from n i 0 so.0))

-- a struct that isn't there, or is null
pub struct_missing : (v : Validity) (from n : ℕ) (cs : List (List Datum)) (i : ℕ) → (nat_lt i n && is_valid v i) ≡ false → null ≡ get_or (shown v (structs_from from n cs)) i null
struct_missing v from n cs i none = row_missing v (structs_from from n cs) n i (sym (length-map-range_with_len (struct_at cs) from n)) none

-- a part of a row of numbers one after another
pub range_part : (a n from len : ℕ) → from + len ≤ n → range_with_len (a + from) len ≡ take len (drop from (range_with_len a n))
range_part a n from len le =
    ext_get_or 0 (range_with_len (a + from) len) (take len (drop from (range_with_len a n))) (length-range_with_len (a + from) len ∙ sym (simp (length-take, length-drop) (omega (arith, length-range_with_len a n))))
    (λ k lt. let low : k < len = omega (arith, length-range_with_len (a + from) len) in
    let there : from + k < n = omega arith in
    get_or-range_with_len (a + from) len k 0 low ∙ omega arith ∙ sym (get_or-take len (drop from (range_with_len a n)) k 0 low ∙ get_or-drop from (range_with_len a n) k 0 ∙ get_or-range_with_len a n (from + k) 0 there))

-- one more value
pub value_more : (h : ℕ → Datum) (out new : List Value) (i : ℕ) (v : Value) → map value_of out ≡ map h (range_with_len 0 i) → new ≡ out ++ v ∷ [] → value_of v ≡ h i → map value_of new ≡ map h (range_with_len 0 (i + 1))
value_more h out new i v so_far pushed here =
    ap (map value_of) pushed ∙ map-append value_of out (v ∷ []) ∙ ap (λ ds. ds ++ value_of v ∷ []) so_far ∙ ap (λ d. map h (range_with_len 0 i) ++ d ∷ []) here ∙ sym (map-range_with_len_more h 0 i i (omega arith))

-- all rows
pub all_rows : (ds : List Datum) (n : ℕ) → n ≡ length ds → map (λ k. get_or ds k null) (range_with_len 0 n) ≡ ds
all_rows ds n long =
    let h = λ (k : ℕ). get_or ds k null in
    ext_get_or null (map h (range_with_len 0 n)) ds (length-map-range_with_len h 0 n ∙ long) (λ k lt. get_or-map-range_with_len h 0 n k k null (omega (arith, length-map-range_with_len h 0 n)) (omega arith))

pub value_of-Utf8 : (s : Text Global) → value_of (Utf8 s) ≡ utf8 (string_bytes s)
value_of-Utf8 s = search (rules, the_lemmas)

-- bytes that are a text, and bytes that are none
pub text_read : (bs : List ℕ) → IsUtf8 bs → utf8 bs ≡ text_row bs
text_read bs is = sym (ap (λ b. if b then utf8 bs else null) (is_utf8-from_IsUtf8 bs is))

pub no_text_read : (bs : List ℕ) → (IsUtf8 bs → ⊥) → null ≡ text_row bs
no_text_read bs isnt = go (is_utf8 bs) refl
  where
    go : (b : Bool) → is_utf8 bs ≡ b → null ≡ (if b then utf8 bs else null)
    go true e = absurd (isnt (IsUtf8-from_is_utf8 bs e))
    go false e = refl
