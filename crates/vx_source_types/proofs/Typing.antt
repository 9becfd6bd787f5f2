-- Values that are given their types in place, one after another.
use Rattle.std.proofs.Common.{◌≡◌, ℕ, ◌+◌, ◌<◌, ◌≤◌, zero, suc, List, [], ◌∷◌, ◌++◌, length, get_or, take, drop, Option, Some, None, refl, sym, ap, ◌∙◌, arith, slice_set, ◌⊎◌, ⊎_elim}
use Rattle.std.specs.Option.{option_and_then, option_map}
use Rattle.std.proofs.Math.Seq.{take-suc-set}
use Rattle.std.proofs.lemmas.List.{drop-set-lt, drop_more, drop_all}
use Rattle.vx_dtype.specs.declared.dtype.DType.{DType}
use Rattle.vx_dtype.specs.Views.{type_of, fields_view}
use Rattle.vx_value.specs.declared.value.Value.{Value}
use Rattle.vx_dtype.proofs.Pairs.{fields_end}
use Rattle.vx_value.specs.Fields.{field_count}
use Rattle.vx_value.specs.Types.{Name, LogicalType, no_field, Data, no_datum, datum}
use Rattle.vx_value.specs.Views.{data_view, value_of}
use Rattle.vx_source_types.specs.Untyped.{typed_value, typed_items, typed_row}

-- values, and more behind them
abbrev pub before : List Value → Data → Data
before [] ws = ws
before (v ∷ vs) ws = datum (value_of v) (before vs ws)

before_last : (vs : List Value) (w : Value) (ws : Data) → before (vs ++ w ∷ []) ws ≡ before vs (datum (value_of w) ws)
before_last [] w ws = refl
before_last (v ∷ vs) w ws = ap (datum (value_of v)) (before_last vs w ws)

before_rest : (vs : List Value) (i : ℕ) → before (take i vs) (data_view (drop i vs)) ≡ data_view vs
before_rest vs zero = refl
before_rest [] (suc i) = refl
before_rest (v ∷ vs) (suc i) = ap (datum (value_of v)) (before_rest vs i)

-- the whole is what is made of the rest, with the values up to there before it
abbrev pub IsMade : Option Data → List Value → ℕ → Option Data → Type 0
IsMade whole now i rest = whole ≡ option_map (before (take i now)) rest

pub made_first : (o : Option Data) (now : List Value) → IsMade o now 0 o
made_first None now = refl
made_first (Some ws) now = refl

moved : (vs : List Value) (w : Value) (o : Option Data) → option_map (before vs) (option_map (datum (value_of w)) o) ≡ option_map (before (vs ++ w ∷ [])) o
moved vs w None = refl
moved vs w (Some ws) = ap Some (sym (before_last vs w ws))

pub made_more : (whole rest more : Option Data) (now : List Value) (i : ℕ) (w : Value) → i < length now → rest ≡ option_map (datum (value_of w)) more → IsMade whole now i rest → IsMade whole (slice_set now i w) (i + 1) more
made_more whole rest more now i w h is made =
    let counted : i + 1 ≡ suc i = omega arith in
    made ∙ ap (option_map (before (take i now))) is ∙ moved (take i now) w more
    ∙ ap (λ vs. option_map (before vs) more) (sym (ap (λ k. take k (slice_set now i w)) counted ∙ take-suc-set now i w h))

pub made_none : (whole rest : Option Data) (now : List Value) (i : ℕ) → rest ≡ None → IsMade whole now i rest → whole ≡ None
made_none whole rest now i is made = made ∙ ap (option_map (before (take i now))) is

pub made_all : (whole rest : Option Data) (now : List Value) (i : ℕ) → rest ≡ Some (data_view (drop i now)) → IsMade whole now i rest → whole ≡ Some (data_view now)
made_all whole rest now i is made = made ∙ ap (option_map (before (take i now))) is ∙ ap Some (before_rest now i)

pub left_alone : (now : List Value) (i : ℕ) (w : Value) → drop (i + 1) (slice_set now i w) ≡ drop (i + 1) now
left_alone now i w = drop-set-lt (i + 1) now i w (omega arith)

-- ---- items

pub item_typed : (now : List Value) (t : LogicalType) (i : ℕ) (v w : Value) → i < length now → typed_value (value_of (get_or now i v)) t ≡ Some (value_of w)
    → typed_items (data_view (drop i now)) t ≡ option_map (datum (value_of w)) (typed_items (data_view (drop (i + 1) (slice_set now i w))) t)
item_typed now t i v w h is =
    ap (λ vs. typed_items (data_view vs) t) (drop_more now i v h)
    ∙ ap (option_and_then (λ x. option_map (datum x) (typed_items (data_view (drop (i + 1) now)) t))) is
    ∙ ap (λ vs. option_map (datum (value_of w)) (typed_items (data_view vs) t)) (sym (left_alone now i w))

pub item_untyped : (now : List Value) (t : LogicalType) (i : ℕ) (v : Value) → i < length now → typed_value (value_of (get_or now i v)) t ≡ None → typed_items (data_view (drop i now)) t ≡ None
item_untyped now t i v h is =
    ap (λ vs. typed_items (data_view vs) t) (drop_more now i v h) ∙ ap (option_and_then (λ x. option_map (datum x) (typed_items (data_view (drop (i + 1) now)) t))) is

pub no_item : (now : List Value) (t : LogicalType) (i : ℕ) → length now ≤ i → typed_items (data_view (drop i now)) t ≡ Some (data_view (drop i now))
no_item now t i h = ap (λ vs. typed_items (data_view vs) t) (drop_all i now h) ∙ ap (λ vs. Some (data_view vs)) (sym (drop_all i now h))

-- ---- the values of a struct

fields_next : (names : List Name) (types : List DType) (i : ℕ) (a : Name) (t : DType) → i < length names → i < length types
    → t ≡ get_or types i t → fields_view (drop i names) (drop i types) ≡ fields_view (get_or names i a ∷ drop (i + 1) names) (t ∷ drop (i + 1) types)
fields_next names types i a t h k is =
    ap (λ ns. fields_view ns (drop i types)) (drop_more names i a h)
    ∙ ap (fields_view (get_or names i a ∷ drop (i + 1) names)) (drop_more types i t k ∙ ap (λ u. u ∷ drop (i + 1) types) (sym is))

pub field_typed : (now : List Value) (names : List Name) (types : List DType) (i : ℕ) (a : Name) (t : DType) (v w : Value) → i < length now → i < length names → i < length types → t ≡ get_or types i t
    → typed_value (value_of (get_or now i v)) (type_of t) ≡ Some (value_of w)
    → typed_row (data_view (drop i now)) (fields_view (drop i names) (drop i types)) ≡ option_map (datum (value_of w)) (typed_row (data_view (drop (i + 1) (slice_set now i w))) (fields_view (drop (i + 1) names) (drop (i + 1) types)))
field_typed now names types i a t v w h k l same is =
    let fs = fields_view (drop (i + 1) names) (drop (i + 1) types) in
    ap (λ vs. typed_row (data_view vs) (fields_view (drop i names) (drop i types))) (drop_more now i v h)
    ∙ ap (typed_row (data_view (get_or now i v ∷ drop (i + 1) now))) (fields_next names types i a t k l same)
    ∙ ap (option_and_then (λ x. option_map (datum x) (typed_row (data_view (drop (i + 1) now)) fs))) is
    ∙ ap (λ vs. option_map (datum (value_of w)) (typed_row (data_view vs) fs)) (sym (left_alone now i w))

pub field_untyped : (now : List Value) (names : List Name) (types : List DType) (i : ℕ) (a : Name) (t : DType) (v : Value) → i < length now → i < length names → i < length types → t ≡ get_or types i t
    → typed_value (value_of (get_or now i v)) (type_of t) ≡ None → typed_row (data_view (drop i now)) (fields_view (drop i names) (drop i types)) ≡ None
field_untyped now names types i a t v h k l same is =
    let fs = fields_view (drop (i + 1) names) (drop (i + 1) types) in
    ap (λ vs. typed_row (data_view vs) (fields_view (drop i names) (drop i types))) (drop_more now i v h)
    ∙ ap (typed_row (data_view (get_or now i v ∷ drop (i + 1) now))) (fields_next names types i a t k l same)
    ∙ ap (option_and_then (λ x. option_map (datum x) (typed_row (data_view (drop (i + 1) now)) fs))) is

stays : (vs : Data) → typed_row vs no_field ≡ Some vs
stays no_datum = refl
stays (datum v vs) = refl

-- where the values end, or the fields
pub no_field_left : (now : List Value) (names : List Name) (types : List DType) (i : ℕ) → (length now ≤ i) ⊎ (field_count (fields_view names types) ≤ i)
    → typed_row (data_view (drop i now)) (fields_view (drop i names) (drop i types)) ≡ Some (data_view (drop i now))
no_field_left now names types i h = ⊎_elim at_values at_fields h where
  at_values : length now ≤ i → typed_row (data_view (drop i now)) (fields_view (drop i names) (drop i types)) ≡ Some (data_view (drop i now))
  at_values k = ap (λ vs. typed_row (data_view vs) (fields_view (drop i names) (drop i types))) (drop_all i now k) ∙ ap (λ vs. Some (data_view vs)) (sym (drop_all i now k))

  at_fields : field_count (fields_view names types) ≤ i → typed_row (data_view (drop i now)) (fields_view (drop i names) (drop i types)) ≡ Some (data_view (drop i now))
  at_fields k = ap (typed_row (data_view (drop i now))) (fields_end names types i k) ∙ stays (data_view (drop i now))
