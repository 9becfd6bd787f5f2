-- Values in a notation: those of a list and of a struct, one at a time, and the text of a value as one of the notations.
use Rattle.std.proofs.Common.{◌≡◌, ℕ, ◌+◌, ◌<◌, ◌≤◌, min, ⊎_elim, List, [], ◌∷◌, ◌++◌, length, get_or, drop, drop-cons, drop_of_length-le, codes, refl, sym, ap, ◌∙◌, add-one, true, false}
use Rattle.std.specs.Prelude.{◌==◌, if◌then◌else◌}
use Rattle.vx_dtype.specs.declared.dtype.DType.{DType}
use Rattle.vx_value.specs.declared.value.Value.{Value}
use Rattle.vx_value.specs.Types.{Name, number, floating, decimals, date, timestamp, LogicalType, ty, atomic, list, fixed, struct, Fields, no_field, field, Datum, bool, int, float, list_of, struct_of, Data, no_datum, datum}
use Rattle.vx_value.specs.Fields.{field_count}
use Rattle.vx_value.specs.Notations.{ValueWords, value_in, items_in, row_in, list_in, shown_words}
use Rattle.vx_value.specs.Texts.{with_commas}
use Rattle.vx_value.specs.ValueTexts.{value_text, item_texts, row_texts, list_text}
use Rattle.vx_value.specs.Views.{type_of, fields_view, value_of, data_view}
use Rattle.vx_dtype.proofs.Commas.{behind, written_next, written_all}
use Rattle.vx_dtype.proofs.Pairs.{fields_next, fields_end, min_cases}

pub data_next : (values : List Value) (i : ℕ) (v : Value) → i < length values → v ≡ get_or values i v → data_view (drop i values) ≡ datum (value_of v) (data_view (drop (i + 1) values))
data_next values i v h p = rw (add-one, drop-cons values i v h, ← p)

-- ---- items

-- the texts of the items from the i-th on
abbrev pub items_from : (Name → List ℕ) → ValueWords → ℕ → List Value → LogicalType → List (List ℕ)
items_from named w i values t = items_in named w (data_view (drop i values)) t

pub items_in_next : (named : Name → List ℕ) (w : ValueWords) (values : List Value) (t : LogicalType) (i : ℕ) (v : Value) (done separator all : List ℕ) → i < length values → v ≡ get_or values i v
    → separator ≡ (if i == 0 then [] else codes ", ")
    → done ++ behind i (items_from named w i values t) ≡ all
    → ((done ++ separator) ++ value_in named w (value_of v) t) ++ behind (i + 1) (items_from named w (i + 1) values t) ≡ all
items_in_next named w values t i v done separator all h p s e =
    written_next i done separator _ all _ s (ap (λ vs. done ++ behind i (items_in named w vs t)) (sym (data_next values i v h p)) ∙ e)

pub items_in_all : (named : Name → List ℕ) (w : ValueWords) (values : List Value) (t : LogicalType) (i : ℕ) (done all : List ℕ) → length values ≤ i
    → done ++ behind i (items_from named w i values t) ≡ all → done ≡ all
items_in_all named w values t i done all h e =
    written_all i done all (ap (λ vs. done ++ behind i (items_in named w (data_view vs) t)) (sym (drop_of_length-le values h)) ∙ e)

-- ---- values behind their fields' names

-- the texts of the values from the i-th on
abbrev pub row_from : (Name → List ℕ) → ValueWords → ℕ → List Name → List Value → List DType → List (List ℕ)
row_from named w i names values types = row_in named w (data_view (drop i values)) (fields_view (drop i names) (drop i types))

pub row_in_next : (named : Name → List ℕ) (w : ValueWords) (names : List Name) (values : List Value) (types : List DType) (i : ℕ) (a : Name) (v : Value) (t : DType) (done separator all : List ℕ)
    → i < length names → i < length values → i < length types
    → a ≡ get_or names i a → v ≡ get_or values i v → t ≡ get_or types i t → separator ≡ (if i == 0 then [] else codes ", ")
    → done ++ behind i (row_from named w i names values types) ≡ all
    → ((done ++ separator) ++ (named a ++ (codes ": " ++ value_in named w (value_of v) (type_of t)))) ++ behind (i + 1) (row_from named w (i + 1) names values types) ≡ all
row_in_next named w names values types i a v t done separator all h k l p q r s e =
    let here : row_from named w i names values types ≡ (named a ++ (codes ": " ++ value_in named w (value_of v) (type_of t))) ∷ row_from named w (i + 1) names values types =
    rw (data_next values i v k q, fields_next names types i a t h l p r) in
    written_next i done separator _ all _ s (ap (λ ts. done ++ behind i ts) (sym here) ∙ e)

no_row : (named : Name → List ℕ) (w : ValueWords) (vs : Data) → row_in named w vs no_field ≡ []
no_row named w no_datum = refl
no_row named w (datum v vs) = refl

row_end : (named : Name → List ℕ) (w : ValueWords) (names : List Name) (values : List Value) (types : List DType) (i : ℕ) → min (length values) (field_count (fields_view names types)) ≤ i → row_from named w i names values types ≡ []
row_end named w names values types i h =
    ⊎_elim (λ (a : length values ≤ i). rw (drop_of_length-le values a))
    (λ (b : field_count (fields_view names types) ≤ i). ap (row_in named w (data_view (drop i values))) (fields_end names types i b) ∙ no_row named w _)
    (min_cases (length values) (field_count (fields_view names types)) i h)

pub row_in_all : (named : Name → List ℕ) (w : ValueWords) (names : List Name) (values : List Value) (types : List DType) (i : ℕ) (done all : List ℕ) → min (length values) (field_count (fields_view names types)) ≤ i
    → done ++ behind i (row_from named w i names values types) ≡ all → done ≡ all
row_in_all named w names values types i done all h e =
    written_all i done all (ap (λ ts. done ++ behind i ts) (sym (row_end named w names values types i h)) ∙ e)

-- ---- values as they are shown

mutual
  pub value_as_text : (v : Datum) (t : LogicalType) → value_in (λ a. a) shown_words v t ≡ value_text v t
  value_as_text (bool true) t = refl
  value_as_text (bool false) t = refl
  value_as_text (int i) (ty (atomic (number p)) n) = refl
  value_as_text (float x) (ty (atomic (floating f)) n) = refl
  value_as_text (int i) (ty (atomic (decimals p s)) n) = refl
  value_as_text (int i) (ty (atomic date) n) = refl
  value_as_text (int i) (ty (atomic (timestamp u z)) n) = refl
  value_as_text (list_of vs) (ty (list t) n) = ap (λ cs. codes "[" ++ (with_commas cs ++ codes "]")) (items_as_texts vs t)
  value_as_text (list_of vs) (ty (fixed t k) n) = ap (λ cs. codes "[" ++ (with_commas cs ++ codes "]")) (items_as_texts vs t)
  value_as_text (struct_of vs) (ty (struct fs) n) = ap (λ cs. codes "{" ++ (with_commas cs ++ codes "}")) (row_as_texts vs fs)
  value_as_text v t = refl

  items_as_texts : (vs : Data) (t : LogicalType) → items_in (λ a. a) shown_words vs t ≡ item_texts vs t
  items_as_texts no_datum t = refl
  items_as_texts (datum v vs) t = rw (value_as_text v t, items_as_texts vs t) refl

  row_as_texts : (vs : Data) (fs : Fields) → row_in (λ a. a) shown_words vs fs ≡ row_texts vs fs
  row_as_texts (datum v vs) (field a t fs) = rw (value_as_text v t, row_as_texts vs fs) refl
  row_as_texts vs fs = refl

pub list_as_text : (vs : Data) (t : LogicalType) → list_in (λ a. a) shown_words vs t ≡ list_text vs t
list_as_text vs t = ap (λ cs. codes "[" ++ (with_commas cs ++ codes "]")) (items_as_texts vs t)
