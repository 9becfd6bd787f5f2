-- The tokens of the values of a list and of a struct, one at a time.
use Rattle.std.proofs.Common.{◌≡◌, ℕ, ◌+◌, ◌<◌, ◌≤◌, min, ⊎_elim, List, [], ◌∷◌, ◌++◌, length, get_or, drop, drop-cons, drop_of_length-le, refl, sym, ap, ◌∙◌, add-one, append_assoc, append-nil}
use Rattle.json.specs.Token.{Token, key}
use Rattle.vx_dtype.specs.declared.dtype.DType.{DType}
use Rattle.vx_dtype.proofs.Pairs.{fields_next, fields_end, min_cases}
use Rattle.vx_value.specs.declared.value.Value.{Value}
use Rattle.vx_value.specs.Fields.{field_count}
use Rattle.vx_value.specs.Types.{Name, LogicalType, Data, no_datum, datum, no_field}
use Rattle.vx_value.specs.Views.{type_of, fields_view, value_of, data_view}
use Rattle.vx_data.specs.Lines.{value_tokens, item_tokens, field_tokens}

data_next : (values : List Value) (i : ℕ) (v : Value) → i < length values → v ≡ get_or values i v → data_view (drop i values) ≡ datum (value_of v) (data_view (drop (i + 1) values))
data_next values i v h p = rw (add-one, drop-cons values i v h, ← p)

-- what is written behind what was, and what is left
written_next : (done here left rest all : List Token) → rest ≡ here ++ left → done ++ rest ≡ all → (done ++ here) ++ left ≡ all
written_next done here left rest all is e = append_assoc done here left ∙ ap (λ ts. done ++ ts) (sym is) ∙ e

-- ---- items

-- the tokens of the items from the i-th on
abbrev pub items_from : ℕ → List Value → LogicalType → List Token
items_from i values t = item_tokens (data_view (drop i values)) t

pub items_next : (values : List Value) (t : LogicalType) (i : ℕ) (v : Value) (done all : List Token) → i < length values → v ≡ get_or values i v
    → done ++ items_from i values t ≡ all → (done ++ value_tokens (value_of v) t) ++ items_from (i + 1) values t ≡ all
items_next values t i v done all h p e = written_next done _ _ _ all (ap (λ vs. item_tokens vs t) (data_next values i v h p)) e

pub items_all : (values : List Value) (t : LogicalType) (i : ℕ) (done all : List Token) → length values ≤ i → done ++ items_from i values t ≡ all → done ≡ all
items_all values t i done all h e = sym (append-nil done) ∙ ap (λ vs. done ++ item_tokens (data_view vs) t) (sym (drop_of_length-le values h)) ∙ e

-- ---- values behind their fields' names

-- the tokens of the values from the i-th on
abbrev pub fields_from : ℕ → List Name → List Value → List DType → List Token
fields_from i names values types = field_tokens (data_view (drop i values)) (fields_view (drop i names) (drop i types))

pub field_next : (names : List Name) (values : List Value) (types : List DType) (i : ℕ) (a : Name) (v : Value) (t : DType) (done all : List Token)
    → i < length names → i < length values → i < length types → a ≡ get_or names i a → v ≡ get_or values i v → t ≡ get_or types i t
    → done ++ fields_from i names values types ≡ all
    → ((done ++ key a ∷ []) ++ value_tokens (value_of v) (type_of t)) ++ fields_from (i + 1) names values types ≡ all
field_next names values types i a v t done all h k l p q r e =
    let here : fields_from i names values types ≡ key a ∷ (value_tokens (value_of v) (type_of t) ++ fields_from (i + 1) names values types) =
    rw (data_next values i v k q, fields_next names types i a t h l p r) in
    written_next (done ++ key a ∷ []) _ _ _ all refl (written_next done (key a ∷ []) _ _ all here e)

no_field_left : (vs : Data) → field_tokens vs no_field ≡ []
no_field_left no_datum = refl
no_field_left (datum v vs) = refl

pub fields_all : (names : List Name) (values : List Value) (types : List DType) (i : ℕ) (done all : List Token) → min (length values) (field_count (fields_view names types)) ≤ i
    → done ++ fields_from i names values types ≡ all → done ≡ all
fields_all names values types i done all h e =
    let end : fields_from i names values types ≡ [] =
    ⊎_elim (λ (a : length values ≤ i). rw (drop_of_length-le values a))
    (λ (b : field_count (fields_view names types) ≤ i). ap (field_tokens (data_view (drop i values))) (fields_end names types i b) ∙ no_field_left _)
    (min_cases (length values) (field_count (fields_view names types)) i h) in
    sym (append-nil done) ∙ ap (λ ts. done ++ ts) (sym end) ∙ e
