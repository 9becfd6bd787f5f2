-- The text of a scalar is read as that scalar.
use Rattle.std.proofs.Common.{◌≡◌, ℕ, ◌≤◌, suc, Bool, true, false, List, [], ◌∷◌, ◌++◌, Option, Some, None, Ok, refl, sym, ap, ◌∙◌, subst, append_assoc, append-nil}
use Rattle.std.specs.Prelude.{◌==◌, option_and_then, if◌then◌else◌, ℤ, pos, negsuc}
use Rattle.std.specs.Fmt.{decimal, signed_decimal}
use Rattle.std.specs.List.{list_all}
use Rattle.std.proofs.lemmas.Bool.{and_parts}
use Rattle.std.proofs.lemmas.Slice.Eq.{bytes_eq-Decides}
use Rattle.vx_dtype.specs.declared.dtype.PType.{PType}
use Rattle.vx_dtype.specs.declared.dtype.PType.TheVariants.{U8, U16, U32, U64, I8, I16, I32, I64}
use Rattle.vx_literals.specs.Days.{Civil, civil_at, day_text}
use Rattle.vx_literals.specs.Instants.{instant_text}
use Rattle.vx_value.specs.Columns.{constant}
use Rattle.vx_value.specs.Fits.{fits, each_fits, fields_fit, Fits}
use Rattle.vx_value.specs.Texts.{ptype_text}
use Rattle.vx_value.specs.Types.{Name, truth, number, floating, decimals, date, timestamp, text, octets, LogicalType, ty, atomic, list, fixed, struct, Fields, no_field, field, Datum, null, bool, int, float, utf8, bytes, list_of, struct_of, Data, no_datum, datum}
use Rattle.vx_source_types.specs.Characters.{is_word}
use Rattle.vx_source_types.specs.Tokens.{number as numeral, end, next, first}
use Rattle.vx_source_types.proofs.FirstNumbers.{IsApart, first_number, first_below_zero}
use Rattle.vx_source_types.specs.Reading.{done, Leads, stays, leads, IsRead, is_read}
use Rattle.vx_source_types.specs.TypePrintable.{IsPrintable, type_nesting}
use Rattle.vx_source_types.specs.TypeReading.{TypeState, type_start, type_step}
use Rattle.vx_source_types.specs.TypeTexts.{type_source}
use Rattle.vx_source_types.proofs.Reading.{then}
use Rattle.vx_source_types.proofs.TypesAgain.{text_again}
use Rattle.vx_source_types.specs.Literals.{fitting, ranged, names_left, items_left, row_left, behind_name, typed_literal, typed_of}
use Rattle.vx_source_types.specs.ScalarReading.{scalar_due, in_value, in_type, suffixed, value_begun, scalar_begins, value_after, type_after, type_ended, scalar_step}
use Rattle.vx_source_types.specs.ScalarTexts.{value_source, scalar_source}
use Rattle.vx_source_types.specs.ScalarPrintable.{value_nesting, IsSpelledValue}
use Rattle.vx_source_types.specs.Untyped.{dated, untyped, untyped_items, untyped_row, typed_value}
use Rattle.vx_source_types.proofs.TypedAgain.{typed_again as value_typed}
use Rattle.vx_source_types.specs.ValueReading.{Drafted, drafted, ValueState, whole_value, value_start, value_step}
use Rattle.vx_source_types.proofs.ValuesAgain.{Begins, names_after, items_after, row_after, value_again, fits_small, fits_below_zero}

-- ---- the names that a value's structs have by its type

abbrev mutual
  names_by : Datum → LogicalType → List Name
  names_by (list_of vs) (ty (list t) n) = items_by vs t
  names_by (list_of vs) (ty (fixed t k) n) = items_by vs t
  names_by (struct_of vs) (ty (struct fs) n) = row_by vs fs
  names_by v t = []

  items_by : Data → LogicalType → List Name
  items_by no_datum t = []
  items_by (datum v vs) t = names_by v t ++ items_by vs t

  row_by : Data → Fields → List Name
  row_by (datum v vs) (field a t fs) = a ∷ (names_by v t ++ row_by vs fs)
  row_by vs fs = []

mutual
  after_by : (v : Datum) (t : LogicalType) (ns : List Name) → names_after ns v t ≡ ns ++ names_by v t
  after_by (list_of vs) (ty (list t) n) ns = items_after_by vs t ns
  after_by (list_of vs) (ty (fixed t k) n) ns = items_after_by vs t ns
  after_by (struct_of vs) (ty (struct fs) n) ns = row_after_by vs fs ns
  after_by _ t ns = sym (append-nil ns)

  items_after_by : (vs : Data) (t : LogicalType) (ns : List Name) → items_after ns vs t ≡ ns ++ items_by vs t
  items_after_by no_datum t ns = sym (append-nil ns)
  items_after_by (datum v vs) t ns =
      items_after_by vs t (names_after ns v t) ∙ ap (λ ms. ms ++ items_by vs t) (after_by v t ns) ∙ append_assoc ns (names_by v t) (items_by vs t)

  row_after_by : (vs : Data) (fs : Fields) (ns : List Name) → row_after ns vs fs ≡ ns ++ row_by vs fs
  row_after_by (datum v vs) (field a t fs) ns =
      row_after_by vs fs (names_after (ns ++ a ∷ []) v t) ∙ ap (λ ms. ms ++ row_by vs fs) (after_by v t (ns ++ a ∷ [])) ∙ simp append_assoc
  row_after_by _ fs ns = sym (append-nil ns)

goes_on : {A B : Type 0} (f : A → Option B) (o : Option A) (x : A) (r : Option B) → o ≡ Some x → f x ≡ r → option_and_then f o ≡ r
goes_on f o x r p q = ap (option_and_then f) p ∙ q

its_name : (a : Name) (names : List Name) → behind_name a (a ∷ names) ≡ Some names
its_name a names = ap (λ b. if b then Some names else None) ((bytes_eq-Decides a a).1 refl)

dated_left : (s : List ℕ) (i : ℤ) (o : Option Civil) (t : LogicalType) (ms : List Name) → names_left (dated s i o) t ms ≡ Some ms
dated_left s i (Some c) t ms = refl
dated_left s i None t ms = refl

mutual
  left_by : (v : Datum) (t : LogicalType) (ms : List Name) → Fits v t → names_left (untyped v t) t (names_by v t ++ ms) ≡ Some ms
  left_by null t ms f = refl
  left_by (bool b) t ms f = refl
  left_by (int i) (ty (atomic (number p)) n) ms f = refl
  left_by (int i) (ty (atomic (decimals p s)) n) ms f = refl
  left_by (int i) (ty (atomic date) n) ms f = dated_left (day_text i) i (civil_at i) (ty (atomic date) n) ms
  left_by (int i) (ty (atomic (timestamp u z)) n) ms f = dated_left (instant_text u z i) i _ (ty (atomic (timestamp u z)) n) ms
  left_by (float x) t ms f = refl
  left_by (utf8 s) t ms f = refl
  left_by (bytes s) t ms f = refl
  left_by (list_of vs) (ty (list t) n) ms f = items_left_by vs t ms f
  left_by (list_of vs) (ty (fixed t k) n) ms f = items_left_by vs t ms (and_parts _ _ f).1
  left_by (struct_of vs) (ty (struct fs) n) ms f = row_left_by vs fs ms f
  left_by _ _ ms f = cc

  items_left_by : (vs : Data) (t : LogicalType) (ms : List Name) → each_fits vs t ≡ true → items_left (untyped_items vs t) t (items_by vs t ++ ms) ≡ Some ms
  items_left_by no_datum t ms f = refl
  items_left_by (datum v vs) t ms f =
      let parts = and_parts (fits v t) (each_fits vs t) f in
      goes_on (items_left (untyped_items vs t) t) _ (items_by vs t ++ ms) (Some ms)
      (ap (names_left (untyped v t) t) (append_assoc (names_by v t) (items_by vs t) ms) ∙ left_by v t (items_by vs t ++ ms) parts.0) (items_left_by vs t ms parts.1)

  row_left_by : (vs : Data) (fs : Fields) (ms : List Name) → fields_fit vs fs ≡ true → row_left (untyped_row vs fs) fs (row_by vs fs ++ ms) ≡ Some ms
  row_left_by no_datum no_field ms f = refl
  row_left_by no_datum (field a t fs) ms f = cc
  row_left_by (datum v vs) no_field ms f = cc
  row_left_by (datum v vs) (field a t fs) ms f =
      let parts = and_parts (fits v t) (fields_fit vs fs) f in
      goes_on (row_left (untyped_row vs fs) fs) _ (row_by vs fs ++ ms) (Some ms)
      (goes_on (names_left (untyped v t) t) _ ((names_by v t ++ row_by vs fs) ++ ms) _ (its_name a ((names_by v t ++ row_by vs fs) ++ ms))
      (ap (names_left (untyped v t) t) (append_assoc (names_by v t) (row_by vs fs) ms) ∙ left_by v t (row_by vs fs ++ ms) parts.0))
      (row_left_by vs fs ms parts.1)

none_left : (v : Datum) (t : LogicalType) → Fits v t → names_left (untyped v t) t (names_after [] v t) ≡ Some []
none_left v t f = ap (names_left (untyped v t) t) (after_by v t [] ∙ sym (append-nil (names_by v t))) ∙ left_by v t [] f

fitted : (t : LogicalType) (v : Datum) → Fits v t → fitting t v ≡ Some (constant t v)
fitted t v f = ap (λ b. if b then Some (constant t v) else None) f

-- what is read of the value's text, before its type
abbrev draft_of : Datum → LogicalType → Drafted
draft_of v t = drafted (untyped v t) (names_after [] v t)

typed_is : (v : Datum) (t : LogicalType) → Fits v t → IsPrintable t → typed_literal (draft_of v t) t ≡ Some (constant t v)
typed_is v t f w = ap (λ ns. typed_of t ns (typed_value (untyped v t) t)) (none_left v t f) ∙ ap (typed_of t (Some [])) (value_typed v t f w) ∙ fitted t v f

-- ---- a value and a type inside a scalar

value_in : {s u : ValueState} {bs ds : List ℕ} (room : ℕ) → Leads value_step s bs u ds → Leads (scalar_step room) (in_value s) bs (in_value u) ds
value_in room stays = stays
value_in room (leads {x = x} p q h) = leads p (ap (value_after room x) q) (value_in room h)

type_in : {s u : TypeState} {bs ds : List ℕ} (room : ℕ) (d : Drafted) → Leads type_step s bs u ds → Leads (scalar_step room) (in_type d s) bs (in_type d u) ds
type_in room d stays = stays
type_in room d (leads p q h) = leads p (ap (type_after d) q) (type_in room d h)

begun_in : {u : ValueState} {bs ds : List ℕ} (room : ℕ) → Begins (value_start room) bs u ds → Leads (scalar_step room) scalar_due bs (in_value u) ds
begun_in room b = leads b.found (ap (scalar_begins room b.token) b.bare ∙ ap (value_begun b.token) b.taken) (value_in room b.goes)

abbrev read_value : Datum → List Name → ℕ → ValueState
read_value v ns r = record { frames = []; mode = whole_value v; names = ns; room = r }

-- ---- a number with its type's name behind it

suffix_is : (p : PType) (negative : Bool) (n : ℕ) → suffixed (numeral negative (Some n) (ptype_text p)) ≡ Some (ranged negative (Some n) (Some p))
suffix_is U8 negative n = refl
suffix_is U16 negative n = refl
suffix_is U32 negative n = refl
suffix_is U64 negative n = refl
suffix_is I8 negative n = refl
suffix_is I16 negative n = refl
suffix_is I32 negative n = refl
suffix_is I64 negative n = refl

-- a suffix begins with a letter that no number has, and is a word
suffix_apart : (p : PType) → IsApart (ptype_text p ++ []) × ((next (ptype_text p ++ []) == 120) ≡ false) × (list_all is_word (ptype_text p) ≡ true)
suffix_apart U8 = ((refl, refl), refl, refl)
suffix_apart U16 = ((refl, refl), refl, refl)
suffix_apart U32 = ((refl, refl), refl, refl)
suffix_apart U64 = ((refl, refl), refl, refl)
suffix_apart I8 = ((refl, refl), refl, refl)
suffix_apart I16 = ((refl, refl), refl, refl)
suffix_apart I32 = ((refl, refl), refl, refl)
suffix_apart I64 = ((refl, refl), refl, refl)

-- a number whose token is known
number_read : (p : PType) (i : ℤ) (room : ℕ) (bs : List ℕ) (negative : Bool) (n : ℕ) → first bs ≡ (numeral negative (Some n) (ptype_text p), []) → ranged negative (Some n) (Some p) ≡ fitting (ty (atomic (number p)) false) (int i)
    → Fits (int i) (ty (atomic (number p)) false) → IsRead (scalar_step room) scalar_due bs (constant (ty (atomic (number p)) false) (int i))
number_read p i room bs negative n e g f =
    let t = ty (atomic (number p)) false in
    let found : suffixed (numeral negative (Some n) (ptype_text p)) ≡ Some (Some (constant t (int i))) = suffix_is p negative n ∙ ap (λ o. Some o) (g ∙ fitted t (int i) f) in
    is_read (leads e (ap (scalar_begins room (numeral negative (Some n) (ptype_text p))) found) stays) refl refl

number_again : (p : PType) (i : ℤ) (room : ℕ) → Fits (int i) (ty (atomic (number p)) false) → IsRead (scalar_step room) scalar_due (signed_decimal i ++ ptype_text p) (constant (ty (atomic (number p)) false) (int i))
number_again p (pos n) room f =
    let apart = suffix_apart p in
    let e : first (decimal n ++ (ptype_text p ++ [])) ≡ (numeral false (Some n) (ptype_text p), []) = first_number n (ptype_text p) [] (fits_small p n f) apart.0 apart.1 apart.2 refl in
    number_read p (pos n) room (decimal n ++ ptype_text p) false n (ap (λ w. first (decimal n ++ w)) (sym (append-nil (ptype_text p))) ∙ e) refl f
number_again p (negsuc n) room f =
    let apart = suffix_apart p in
    let e : first (45 ∷ (decimal (suc n) ++ (ptype_text p ++ []))) ≡ (numeral true (Some (suc n)) (ptype_text p), []) = first_below_zero (suc n) (ptype_text p) [] (fits_below_zero p n f) apart.0 apart.2 refl in
    number_read p (negsuc n) room (45 ∷ (decimal (suc n) ++ ptype_text p)) true (suc n) (ap (λ w. first (45 ∷ (decimal (suc n) ++ w))) (sym (append-nil (ptype_text p))) ∙ e) refl f

-- ---- scalars

-- a value, and the whole of its type behind it
typed_again : (v : Datum) (t : LogicalType) (room : ℕ) → Fits v t → IsSpelledValue v → IsPrintable t → value_nesting v ≤ room → type_nesting t ≤ room
    → IsRead (scalar_step room) scalar_due (value_source v t ++ 58 ∷ 58 ∷ type_source t) (constant t v)
typed_again v t room f u w h k = behind (text_again t room w k) where
  behind : IsRead type_step (type_start room) (type_source t) t → IsRead (scalar_step room) scalar_due (value_source v t ++ 58 ∷ 58 ∷ type_source t) (constant t v)
  behind (is_read {u = s} {ds = ds} g p q) =
      is_read
      ((then) (scalar_step room) (begun_in room (value_again v t [] [] room (58 ∷ 58 ∷ type_source t) f u w h (refl, refl, λ i e. refl)))
      (leads refl refl (type_in room (draft_of v t) g))) p (ap (type_after (draft_of v t)) q ∙ ap type_ended (typed_is v t f w))

-- a value without a type behind it
plain_again : (v : Datum) (t : LogicalType) (room : ℕ) → Fits v t → IsSpelledValue v → IsPrintable t → value_nesting v ≤ room
    → scalar_step room (in_value (read_value (untyped v t) (names_after [] v t) room)) end ≡ Ok (done (constant t v))
    → IsRead (scalar_step room) scalar_due (value_source v t) (constant t v)
plain_again v t room f u w h e =
    is_read (subst (λ bs. Leads (scalar_step room) scalar_due bs (in_value (read_value (untyped v t) (names_after [] v t) room)) []) (append-nil (value_source v t)) (begun_in room (value_again v t [] [] room [] f u w h (refl, refl, λ i e. refl)))) refl e

pub scalar_again : (t : LogicalType) (v : Datum) (room : ℕ) → Fits v t → IsSpelledValue v → IsPrintable t → value_nesting v ≤ room → type_nesting t ≤ room
    → IsRead (scalar_step room) scalar_due (scalar_source v t) (constant t v)
scalar_again (ty (atomic (number p)) false) (int i) room f u w h k = number_again p i room f
scalar_again (ty (atomic truth) false) (bool true) room f u w h k = plain_again (bool true) (ty (atomic truth) false) room f u w h refl
scalar_again (ty (atomic truth) false) (bool false) room f u w h k = plain_again (bool false) (ty (atomic truth) false) room f u w h refl
scalar_again (ty (atomic text) false) (utf8 s) room f u w h k = subst (λ bs. IsRead (scalar_step room) scalar_due bs (constant (ty (atomic text) false) (utf8 s))) (sym (append-nil _)) (plain_again (utf8 s) (ty (atomic text) false) room f u w h refl)
scalar_again (ty (atomic octets) false) (bytes s) room f u w h k = subst (λ bs. IsRead (scalar_step room) scalar_due bs (constant (ty (atomic octets) false) (bytes s))) (sym (append-nil _)) (plain_again (bytes s) (ty (atomic octets) false) room f u w h refl)
scalar_again (ty (atomic (number p)) true) v room f u w h k = typed_again v (ty (atomic (number p)) true) room f u w h k
scalar_again (ty (atomic truth) true) v room f u w h k = typed_again v (ty (atomic truth) true) room f u w h k
scalar_again (ty (atomic text) true) v room f u w h k = typed_again v (ty (atomic text) true) room f u w h k
scalar_again (ty (atomic octets) true) v room f u w h k = typed_again v (ty (atomic octets) true) room f u w h k
scalar_again (ty (atomic (floating g)) n) v room f u w h k = typed_again v (ty (atomic (floating g)) n) room f u w h k
scalar_again (ty (atomic (decimals p s)) n) v room f u w h k = typed_again v (ty (atomic (decimals p s)) n) room f u w h k
scalar_again (ty (atomic date) n) v room f u w h k = typed_again v (ty (atomic date) n) room f u w h k
scalar_again (ty (atomic (timestamp i z)) n) v room f u w h k = typed_again v (ty (atomic (timestamp i z)) n) room f u w h k
scalar_again (ty (list t) n) v room f u w h k = typed_again v (ty (list t) n) room f u w h k
scalar_again (ty (fixed t l) n) v room f u w h k = typed_again v (ty (fixed t l) n) room f u w h k
scalar_again (ty (struct fs) n) v room f u w h k = typed_again v (ty (struct fs) n) room f u w h k
scalar_again (ty (atomic p) false) _ room f u w h k = cc
