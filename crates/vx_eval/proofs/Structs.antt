-- Fields of structs by their places.
use Rattle.std.proofs.Common.{◌≡◌, ℕ, ◌<◌, ◌≤◌, List, [], ◌∷◌, length, get_or, take, refl, sym, ap, map, ◌++◌, ◌+◌, ◌∙◌, arith, zero, suc, rules, Vec, Global, Option, Some, None, Bool, true, false, Result, Ok, IsOk, add-one}
use Rattle.std.specs.Prelude.{position, is_some}
use Rattle.std.specs.Result.{result_map_both}
use Rattle.std.proofs.lemmas.List.{take_more, map-append}
use Rattle.std.proofs.Common.{inl, inr}
use Rattle.std.specs.Str.{bytes_eq}
use Rattle.std.proofs.lemmas.List.Quantifiers.{position-Some}
use Rattle.vx_value.specs.declared.value.Value.{Value, Struct, Null, the_lemmas}
use Rattle.vx_value.specs.Fields.{field_value, field_type, field_names, field_count, first_unknown, project, project_values, data_of}
use Rattle.vx_value.specs.Types.{Name, LogicalType, Datum, null, struct_of, Data, no_datum, datum, Fields, no_field, field, ty, struct}
use Rattle.vx_value.specs.Views.{value_of, type_of, fields_of, admits_null}
use Rattle.vx_dtype.specs.declared.dtype.DType.{DType, the_lemmas as the_types}
use Rattle.vx_dtype.specs.declared.dtype.DType as program
use Rattle.vx_dtype.specs.declared.dtype.StructFields.{StructFields}
use Rattle.vx_dtype.specs.declared.dtype.Nullability.{Nullability}
use Rattle.vx_dtype.specs.declared.error.VortexError.{VortexError}
use Rattle.vx_dtype.specs.Returns.{known_or}
use Rattle.vx_dtype.proofs.Known.{known_first}
use Rattle.vx_fn.specs.declared.options.FieldSelection.{FieldSelection}
use Rattle.vx_fn.specs.Functions.{item_type, select_type, found, selection_names, included}
use Rattle.vx_fn.specs.Values.{item_value, select_value}
use Rattle.vx_fn.proofs.Sound.{included-known}
use Rattle.vx_dtype.specs.Lists.{IsIn}
use Rattle.vx_tree.proofs.Trees.{none_passes}
use Rattle.vx_eval.specs.Columns.{values_of, datum_at, item_at}
use Rattle.vx_eval.specs.Kernels.{items_at}

pub value_of-Struct : (v : Vec Value Global) → value_of (Struct v) ≡ struct_of (data_of (values_of v.items))
value_of-Struct v = search (rules, the_lemmas)

pub value_of-Null : value_of Null ≡ null
value_of-Null = search (rules, the_lemmas)

pub datum_at-data : (ds : List Datum) (i : ℕ) → datum_at i (data_of ds) ≡ get_or ds i null
datum_at-data [] i = refl
datum_at-data (d ∷ ds) zero = refl
datum_at-data (d ∷ ds) (suc i) = datum_at-data ds i

type_of-Struct : (s : StructFields) (n : Nullability) → type_of (program.Struct s n) ≡ ty (struct (fields_of s)) (admits_null n)
type_of-Struct s n = search (rules, the_types)

-- the first of the names that is the field's is where its value stands
placed : (a : Name) (fs : Fields) (names : List Name) (k : ℕ) (vs : Data) → field_names fs ≡ take (field_count fs) names → is_some (field_type a fs) ≡ true →
    bytes_eq a (get_or names k []) ≡ true → ((j : ℕ) → j < k → bytes_eq a (get_or names j []) ≡ false) → field_value a fs vs ≡ datum_at k vs
placed a no_field names k vs e known here before = cc
placed a (field b t fs) [] k vs e known here before = let h = rw add-one at e in cc
placed a (field b t fs) (c ∷ names) zero vs e known here before =
    let h = rw add-one at e in
    let same : b ≡ c = cc in
    front vs (rw same here)
  where
    front : (vs : Data) → bytes_eq a b ≡ true → field_value a (field b t fs) vs ≡ datum_at 0 vs
    front no_datum q = refl
    front (datum v vs) q = rw q
placed a (field b t fs) (c ∷ names) (suc k) vs e known here before =
    let h = rw add-one at e in
    let same : b ≡ c = cc in
    let other : bytes_eq a b ≡ false = rw same (before 0 (omega arith)) in
    let rest : field_names fs ≡ take (field_count fs) names = cc in
    behind vs other (λ ws. placed a fs names k ws rest (rw other at known) here (λ j lt. before (suc j) (omega arith)))
  where
    behind : (vs : Data) → bytes_eq a b ≡ false → ((ws : Data) → field_value a fs ws ≡ datum_at k ws) → field_value a (field b t fs) vs ≡ datum_at (suc k) vs
    behind no_datum q h = refl
    behind (datum v vs) q h = rw q (h vs)

-- a name that a field has is among the names
named : (a : Name) (fs : Fields) (names : List Name) → field_names fs ≡ take (field_count fs) names → is_some (field_type a fs) ≡ true → ((x : Name) → IsIn x names → bytes_eq a x ≡ false) → ⊥
named a no_field names e known none = cc
named a (field b t fs) [] e known none = let h = rw add-one at e in cc
named a (field b t fs) (c ∷ names) e known none =
    let h = rw add-one at e in
    let same : b ≡ c = cc in
    let other : bytes_eq a b ≡ false = none b (inl same) in
    let rest : field_names fs ≡ take (field_count fs) names = cc in
    named a fs names rest (rw other at known) (λ x i. none x (inr i))

known_of : (a : Name) (fs : Fields) (n : Bool) → IsOk (item_type a (ty (struct fs) n)) → is_some (field_type a fs) ≡ true
known_of a fs n ok = go (field_type a fs) ok
  where
    go : (o : Option LogicalType) → IsOk (found a n o) → is_some o ≡ true
    go None ok = cc
    go (Some t) ok = refl

pub item_known : (a : Name) (t : DType) (s : StructFields) (n : Nullability) → t ≡ program.Struct s n → IsOk (item_type a (type_of t)) → is_some (field_type a (fields_of s)) ≡ true
item_known a t s n is ok = let struct_is : type_of t ≡ ty (struct (fields_of s)) (admits_null n) = ap type_of is ∙ type_of-Struct s n in known_of a (fields_of s) (admits_null n) (rw struct_is at ok)

pub field_placed : (a : Name) (fs : Fields) (names : List Name) (k : ℕ) → is_some (field_type a fs) ≡ true → field_names fs ≡ take (field_count fs) names → Some k ≡ position (bytes_eq a) names →
    (vs : Data) → field_value a fs vs ≡ datum_at k vs
field_placed a fs names k known e at vs = let first = position-Some (bytes_eq a) names k [] (sym at) in placed a fs names k vs e known first.1 first.2

pub field_missing : (a : Name) (fs : Fields) (names : List Name) → is_some (field_type a fs) ≡ true → field_names fs ≡ take (field_count fs) names → None ≡ position (bytes_eq a) names → ⊥
field_missing a fs names known e at = named a fs names e known (λ x i. none_passes (bytes_eq a) names x (sym at) i)

pub item_placed : (a : Name) (t : DType) (s : StructFields) (n : Nullability) (k : ℕ) → t ≡ program.Struct s n → ((vs : Data) → field_value a (fields_of s) vs ≡ datum_at k vs) →
    (v : Datum) → item_value a (type_of t ∷ []) v ≡ item_at k v
item_placed a t s n k is at v =
    let struct_is : type_of t ≡ ty (struct (fields_of s)) (admits_null n) = ap type_of is ∙ type_of-Struct s n in
    rw struct_is (go v)
  where
    go : (v : Datum) → item_value a (ty (struct (fields_of s)) (admits_null n) ∷ []) v ≡ item_at k v
    go (struct_of vs) = at vs
    go _ = refl

-- ---- some of the fields

abbrev of_names : List Name → Result (List Name) VortexError
of_names names = Ok names

pub selection_known : (sel : FieldSelection) (t : DType) (s : StructFields) (n : Nullability) → t ≡ program.Struct s n → IsOk (select_type sel (type_of t)) → first_unknown (selection_names sel) (fields_of s) ≡ None
selection_known sel t s n is ok =
    let struct_is : type_of t ≡ ty (struct (fields_of s)) (admits_null n) = ap type_of is ∙ type_of-Struct s n in
    go (first_unknown (selection_names sel) (fields_of s)) (rw struct_is at ok)
  where
    go : (o : Option Name) → IsOk (result_map_both (λ kept. ty (struct kept) (admits_null n)) (λ refusal. refusal) (known_or o (Ok (project (included sel (fields_of s)) (fields_of s))))) → o ≡ None
    go None ok = refl
    go (Some a) ok = cc

pub known_at : (names : List Name) (fs : Fields) (i : ℕ) (a : Name) → first_unknown names fs ≡ None → i < length names → a ≡ get_or names i a → is_some (field_type a fs) ≡ true
known_at [] fs i a e lt is = absurd (omega arith)
known_at (b ∷ names) fs zero a e lt is = ap (λ x. is_some (field_type x fs)) is ∙ (known_first b names fs e).0
known_at (b ∷ names) fs (suc i) a e lt is = known_at names fs i a (known_first b names fs e).1 (omega arith) is

pub names_known : (sel : FieldSelection) (fs : Fields) (names : List Name) → of_names (included sel fs) ≡ Ok names → first_unknown (selection_names sel) fs ≡ None → first_unknown names fs ≡ None
names_known sel fs names is e = let same : included sel fs ≡ names = cc in ap (λ ns. first_unknown ns fs) (sym same) ∙ included-known sel fs e

pub projected_at : (names : List Name) (fs : Fields) (vs : Data) → project_values names fs vs ≡ data_of (map (λ a. field_value a fs vs) names)
projected_at [] fs vs = refl
projected_at (a ∷ names) fs vs = ap (λ ds. datum (field_value a fs vs) ds) (projected_at names fs vs)

pub items_placed : (sel : FieldSelection) (t : DType) (s : StructFields) (n : Nullability) (names : List Name) (ks : List ℕ) → t ≡ program.Struct s n → of_names (included sel (fields_of s)) ≡ Ok names →
    ((vs : Data) → project_values names (fields_of s) vs ≡ data_of (map (λ k. datum_at k vs) ks)) → (v : Datum) → select_value sel (type_of t ∷ []) v ≡ items_at ks v
items_placed sel t s n names ks is are at v =
    let same : included sel (fields_of s) ≡ names = cc in
    let struct_is : type_of t ≡ ty (struct (fields_of s)) (admits_null n) = ap type_of is ∙ type_of-Struct s n in
    rw struct_is (go same v)
  where
    go : included sel (fields_of s) ≡ names → (v : Datum) → select_value sel (ty (struct (fields_of s)) (admits_null n) ∷ []) v ≡ items_at ks v
    go same (struct_of vs) = ap struct_of (ap (λ ns. project_values ns (fields_of s) vs) same ∙ at vs)
    go same _ = refl

-- one more element, at the loop's index
pub mapped_more : {A B : Type 0} (f : A → B) (xs : List A) (out new : List B) (i : ℕ) (d : A) (y : B) → out ≡ map f (take i xs) → new ≡ out ++ y ∷ [] → i < length xs → y ≡ f (get_or xs i d) → new ≡ map f (take (i + 1) xs)
mapped_more f xs out new i d y so_far pushed lt here =
    pushed ∙ ap (λ l. l ++ y ∷ []) so_far ∙ ap (λ z. map f (take i xs) ++ z ∷ []) here ∙ sym (ap (map f) (take_more xs i d lt) ∙ map-append f (take i xs) (get_or xs i d ∷ []))

pub items_given : (row : Value) (v : Vec Value Global) (ks : List ℕ) (items : Vec Value Global) → row ≡ Struct v → values_of items.items ≡ map (λ k. item_at k (value_of row)) ks → value_of (Struct items) ≡ items_at ks (value_of row)
items_given row v ks items is are = value_of-Struct items ∙ ap (λ ds. struct_of (data_of ds)) are ∙ rw (is, value_of-Struct v) refl

pub item_taken : (row : Value) (v : Vec Value Global) (k : ℕ) (x : Value) → row ≡ Struct v → k < length v.items → x ≡ get_or v.items k x → value_of x ≡ item_at k (value_of row)
item_taken row v k x is lt at = rw (is, value_of-Struct v, datum_at-data (values_of v.items) k) (go v.items k lt at)
  where
    go : (xs : List Value) (k : ℕ) → k < length xs → x ≡ get_or xs k x → value_of x ≡ get_or (values_of xs) k null
    go [] k lt e = absurd (omega arith)
    go (y ∷ ys) zero lt e = ap value_of e
    go (y ∷ ys) (suc k) lt e = go ys k (omega arith) e

pub item_past : (row : Value) (v : Vec Value Global) (k : ℕ) → row ≡ Struct v → length v.items ≤ k → value_of Null ≡ item_at k (value_of row)
item_past row v k is le = rw (is, value_of-Struct v, datum_at-data (values_of v.items) k) (value_of-Null ∙ go v.items k le)
  where
    go : (xs : List Value) (k : ℕ) → length xs ≤ k → null ≡ get_or (values_of xs) k null
    go [] k le = refl
    go (y ∷ ys) zero le = absurd (omega arith)
    go (y ∷ ys) (suc k) le = go ys k (omega arith)

-- the item of one row is that row of the items
pub item_row : (k : ℕ) (x : Value) (rows : List Value) (i : ℕ) → i < length rows → x ≡ get_or rows i x → item_at k (value_of x) ≡ get_or (map (item_at k) (values_of rows)) i null
item_row k x [] i lt at = absurd (omega arith)
item_row k x (y ∷ ys) zero lt at = ap (λ z. item_at k (value_of z)) at
item_row k x (y ∷ ys) (suc i) lt at = item_row k x ys i (omega arith) at
