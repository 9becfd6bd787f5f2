-- Values along paths, by the places of fields in structs.
use Rattle.std.proofs.Common.{◌≡◌, ℕ, ◌+◌, ◌<◌, ◌≤◌, List, [], ◌∷◌, ◌++◌, length, get_or, take, drop, map, refl, sym, ap, ◌∙◌, arith, rules, zero, suc, Vec, Global, Bor, unwrap_or, Option, Some, None, true, false, add-one}
use Rattle.std.specs.Prelude.{position, is_some}
use Rattle.std.specs.Option.{option_and_then}
use Rattle.std.specs.Str.{bytes_eq}
use Rattle.std.proofs.lemmas.List.{drop_more}
use Rattle.std.proofs.lemmas.List.Quantifiers.{position-Some}
use Rattle.std.specs.Slice.{IsItemAt}
use Rattle.std.proofs.lemmas.Bool.{or_parts, ltb-true, ltb-false}
use Rattle.vx_dtype.proofs.FieldsAt.{is_among_place}
use Rattle.vx_dtype.specs.Fields.{is_among}
use Rattle.vx_dtype.specs.declared.error.VortexError.TheVariants.{NotAStruct, NoSuchField}
use Rattle.vx_value.specs.declared.field_path.Field.{Field}
use Rattle.vx_value.specs.declared.value.Value.{Value, Struct, the_lemmas}
use Rattle.vx_value.specs.Views.{value_of}
use Rattle.vx_value.specs.Fields.{field_value, field_type, field_names, field_count, data_of}
use Rattle.vx_value.specs.Paths.{Path, path_of, part_name}
use Rattle.vx_value.specs.Types.{Name, LogicalType, ty, atomic, list, fixed, struct, struct_fields, Fields, no_field, field, Datum, null, bool, int, float, utf8, bytes, list_of, struct_of, Data, no_datum, datum}
use Rattle.vx_projection.specs.Lost.{lost}
use Rattle.vx_prune_tree.specs.Stats.{at_path, in_known}
use Rattle.vx_prune_tree.specs.Lent.{datum_at, at_places, lent_value}

-- the type to which the path leads
abbrev pub type_at : LogicalType → Path → Option LogicalType
type_at t [] = Some t
type_at (ty (struct fs) n) (a ∷ path) = option_and_then (λ t. type_at t path) (field_type a fs)
type_at _ _ = None

-- null has nothing but null along a path, and at places
pub at_path-null : (t : LogicalType) (path : Path) → at_path t path null ≡ null
at_path-null t [] = refl
at_path-null (ty (struct fs) n) (a ∷ path) = refl
at_path-null (ty (atomic x) n) (a ∷ path) = refl
at_path-null (ty (list x) n) (a ∷ path) = refl
at_path-null (ty (fixed x k) n) (a ∷ path) = refl

pub at_places-null : (places : List ℕ) → at_places places null ≡ null
at_places-null [] = refl
at_places-null (k ∷ places) = refl

-- along one path after another, where the first leads to a place of that type
pub at_path-append : (t u : LogicalType) (path rest : Path) (v : Datum) → type_at t path ≡ Some u → at_path t (path ++ rest) v ≡ at_path u rest (at_path t path v)
at_path-append t u [] rest v e = let same : t ≡ u = cc in ap (λ (x : LogicalType). at_path x rest v) same
at_path-append (ty (struct fs) n) u (a ∷ path) rest (struct_of vs) e = go (field_type a fs) e (λ x. at_path-append x u path rest (field_value a fs vs))
  where
    go : (o : Option LogicalType) → option_and_then (λ x. type_at x path) o ≡ Some u → ((x : LogicalType) → type_at x path ≡ Some u → at_path x (path ++ rest) (field_value a fs vs) ≡ at_path u rest (at_path x path (field_value a fs vs))) →
        in_known o (λ x. at_path x (path ++ rest) (field_value a fs vs)) ≡ at_path u rest (in_known o (λ x. at_path x path (field_value a fs vs)))
    go None e more = cc
    go (Some x) e more = more x e
at_path-append (ty (struct fs) n) u (a ∷ path) rest null e = sym (at_path-null u rest)
at_path-append (ty (struct fs) n) u (a ∷ path) rest (bool x) e = sym (at_path-null u rest)
at_path-append (ty (struct fs) n) u (a ∷ path) rest (int x) e = sym (at_path-null u rest)
at_path-append (ty (struct fs) n) u (a ∷ path) rest (float x) e = sym (at_path-null u rest)
at_path-append (ty (struct fs) n) u (a ∷ path) rest (utf8 x) e = sym (at_path-null u rest)
at_path-append (ty (struct fs) n) u (a ∷ path) rest (bytes x) e = sym (at_path-null u rest)
at_path-append (ty (struct fs) n) u (a ∷ path) rest (list_of x) e = sym (at_path-null u rest)
at_path-append (ty (atomic x) n) u (a ∷ path) rest v e = cc
at_path-append (ty (list x) n) u (a ∷ path) rest v e = cc
at_path-append (ty (fixed x k) n) u (a ∷ path) rest v e = cc

-- places are gone to one after another
pub at_places-append : (places : List ℕ) (k : ℕ) (v : Datum) → at_places (places ++ k ∷ []) v ≡ at_places (k ∷ []) (at_places places v)
at_places-append [] k v = refl
at_places-append (j ∷ places) k (struct_of vs) = at_places-append places k (datum_at j vs)
at_places-append (j ∷ places) k _ = refl

pub at_places-cons : (k : ℕ) (places : List ℕ) (v : Datum) → at_places (k ∷ places) v ≡ at_places places (at_places (k ∷ []) v)
at_places-cons k places (struct_of vs) = refl
at_places-cons k places null = sym (at_places-null places)
at_places-cons k places (bool x) = sym (at_places-null places)
at_places-cons k places (int x) = sym (at_places-null places)
at_places-cons k places (float x) = sym (at_places-null places)
at_places-cons k places (utf8 x) = sym (at_places-null places)
at_places-cons k places (bytes x) = sym (at_places-null places)
at_places-cons k places (list_of x) = sym (at_places-null places)

-- a path goes on nowhere in another type than a struct, nor to a field that isn't there
pub lost-no_struct : (a : Name) (path : Path) (t : LogicalType) → struct_fields t ≡ None → lost (a ∷ path) t ≡ Some NotAStruct
lost-no_struct a path (ty (struct fs) n) e = cc
lost-no_struct a path (ty _ n) e = refl

pub lost-missing : (a : Name) (path : Path) (t : LogicalType) (fs : Fields) → struct_fields t ≡ Some fs → field_type a fs ≡ None → lost (a ∷ path) t ≡ Some (NoSuchField a)
lost-missing a path (ty (struct gs) n) fs e h = let same : gs ≡ fs = cc in rw (same, h) refl
lost-missing a path (ty (atomic x) n) fs e h = cc
lost-missing a path (ty (list x) n) fs e h = cc
lost-missing a path (ty (fixed x k) n) fs e h = cc

-- else it goes on in the field's type
pub lost-field : (a : Name) (path : Path) (t : LogicalType) (fs : Fields) (u : LogicalType) → struct_fields t ≡ Some fs → field_type a fs ≡ Some u → lost (a ∷ path) t ≡ lost path u
lost-field a path (ty (struct gs) n) fs u e h = let same : gs ≡ fs = cc in rw (same, h) refl
lost-field a path (ty (atomic x) n) fs u e h = cc
lost-field a path (ty (list x) n) fs u e h = cc
lost-field a path (ty (fixed x k) n) fs u e h = cc

-- and its values stand where the field's do
pub at_path-field : (a : Name) (path : Path) (t : LogicalType) (fs : Fields) (u : LogicalType) (k : ℕ) → struct_fields t ≡ Some fs → field_type a fs ≡ Some u →
    ((vs : Data) → field_value a fs vs ≡ datum_at k vs) → (v : Datum) → at_path t (a ∷ path) v ≡ at_path u path (at_places (k ∷ []) v)
at_path-field a path (ty (struct gs) n) fs u k e h at (struct_of vs) = let same : gs ≡ fs = cc in rw (same, h, at vs) refl
at_path-field a path (ty (struct gs) n) fs u k e h at null = sym (at_path-null u path)
at_path-field a path (ty (struct gs) n) fs u k e h at (bool x) = sym (at_path-null u path)
at_path-field a path (ty (struct gs) n) fs u k e h at (int x) = sym (at_path-null u path)
at_path-field a path (ty (struct gs) n) fs u k e h at (float x) = sym (at_path-null u path)
at_path-field a path (ty (struct gs) n) fs u k e h at (utf8 x) = sym (at_path-null u path)
at_path-field a path (ty (struct gs) n) fs u k e h at (bytes x) = sym (at_path-null u path)
at_path-field a path (ty (struct gs) n) fs u k e h at (list_of x) = sym (at_path-null u path)
at_path-field a path (ty (atomic x) n) fs u k e h at v = cc
at_path-field a path (ty (list x) n) fs u k e h at v = cc
at_path-field a path (ty (fixed x j) n) fs u k e h at v = cc

-- the first of the names that is the field's is where its value stands
placed : (a : Name) (fs : Fields) (names : List Name) (k : ℕ) (vs : Data) → field_names fs ≡ take (field_count fs) names → is_some (field_type a fs) ≡ true →
    bytes_eq a (get_or names k []) ≡ true → ((j : ℕ) → j < k → bytes_eq a (get_or names j []) ≡ false) → field_value a fs vs ≡ datum_at k vs
placed a no_field names k vs e known here before = cc
placed a (field b t fs) [] k vs e known here before = let h = rw add-one at e in cc
placed a (field b t fs) (c ∷ names) zero vs e known here before =
    let h = rw add-one at e in
    let same : b ≡ c = cc in
    front vs (rw same here)
  where
    front : (vs : Data) → bytes_eq a b ≡ true → field_value a (field b t fs) vs ≡ datum_at 0 vs
    front no_datum q = refl
    front (datum v vs) q = rw q
placed a (field b t fs) (c ∷ names) (suc k) vs e known here before =
    let h = rw add-one at e in
    let same : b ≡ c = cc in
    let other : bytes_eq a b ≡ false = rw same (before 0 (omega arith)) in
    let rest : field_names fs ≡ take (field_count fs) names = cc in
    behind vs other (λ ws. placed a fs names k ws rest (rw other at known) here (λ j lt. before (suc j) (omega arith)))
  where
    behind : (vs : Data) → bytes_eq a b ≡ false → ((ws : Data) → field_value a fs ws ≡ datum_at k ws) → field_value a (field b t fs) vs ≡ datum_at (suc k) vs
    behind no_datum q h = refl
    behind (datum v vs) q h = rw q (h vs)

pub field_placed : (a : Name) (fs : Fields) (names : List Name) (k : ℕ) → is_some (field_type a fs) ≡ true → field_names fs ≡ take (field_count fs) names → Some k ≡ position (bytes_eq a) names →
    (vs : Data) → field_value a fs vs ≡ datum_at k vs
field_placed a fs names k known e at vs = let first = position-Some (bytes_eq a) names k [] (sym at) in placed a fs names k vs e known first.1 first.2

-- no field has a name that isn't among the names
unnamed : (a : Name) (fs : Fields) (names : List Name) → field_names fs ≡ take (field_count fs) names → is_among names a ≡ false → field_type a fs ≡ None
unnamed a no_field names e none = refl
unnamed a (field b t fs) [] e none = let h = rw add-one at e in cc
unnamed a (field b t fs) (c ∷ names) e none =
    let h = rw add-one at e in
    let same : b ≡ c = cc in
    let rest : field_names fs ≡ take (field_count fs) names = cc in
    let parts = or_parts (bytes_eq a c) (is_among names a) none in
    rw (same, parts.0) (unnamed a fs names rest parts.1)

pub field_unnamed : (a : Name) (fs : Fields) (names : List Name) → field_names fs ≡ take (field_count fs) names → None ≡ position (bytes_eq a) names → field_type a fs ≡ None
field_unnamed a fs names e none = unnamed a fs names e (sym (ap is_some none ∙ is_among_place a names))

-- the rest of a path begins with the part of that index
pub path_from : (path : List Field) (i : ℕ) (part : Field) → i < length path → part ≡ get_or path i part → path_of (drop i path) ≡ part_name part ∷ path_of (drop (i + 1) path)
path_from path i part h e = ap path_of (drop_more path i part h) ∙ ap (λ x. part_name x ∷ path_of (drop (i + 1) path)) (sym e)

pub places_from : (places : List ℕ) (i : ℕ) (v : Datum) → i < length places → at_places (drop i places) v ≡ at_places (drop (i + 1) places) (at_places (get_or places i 0 ∷ []) v)
places_from places i v h = ap (λ ps. at_places ps v) (drop_more places i 0 h) ∙ at_places-cons (get_or places i 0) (drop (i + 1) places) v

-- ---- items of structs

value_of-Struct : (v : Vec Value Global) → value_of (Struct v) ≡ struct_of (data_of (map value_of v.items))
value_of-Struct v = search (rules, the_lemmas)

past : (items : List Value) (i : ℕ) → length items ≤ i → datum_at i (data_of (map value_of items)) ≡ null
past [] i h = refl
past (x ∷ items) zero h = absurd (omega arith)
past (x ∷ items) (suc i) h = past items i (omega arith)

there : (items : List Value) (i : ℕ) (x : Value) → i < length items → x ≡ get_or items i x → value_of x ≡ datum_at i (data_of (map value_of items))
there [] i x h e = absurd (omega arith)
there (y ∷ items) zero x h e = ap value_of e
there (y ∷ items) (suc i) x h e = there items i x (omega arith) e

lent_item : (items : List Value) (i : ℕ) (found : Option (Bor Value)) → IsItemAt items i found → unwrap_or (lent_value found) null ≡ datum_at i (data_of (map value_of items))
lent_item items i None h = sym (past items i (ltb-false i (length items) (sym h.0)))
lent_item items i (Some x) h = there items i x.now (ltb-true i (length items) (sym h.0)) h.1

-- what `get` lends of the items is what stands at the place
pub item_of : (v : Value) (items : Vec Value Global) (slice : List Value) (i : ℕ) (found : Option (Bor Value)) → v ≡ Struct items → slice ≡ items.items → IsItemAt slice i found →
    unwrap_or (lent_value found) null ≡ at_places (i ∷ []) (value_of v)
item_of v items slice i found is same h = lent_item slice i found h ∙ sym (ap (at_places (i ∷ [])) (ap value_of is ∙ value_of-Struct items) ∙ ap (λ (xs : List Value). datum_at i (data_of (map value_of xs))) (sym same))
