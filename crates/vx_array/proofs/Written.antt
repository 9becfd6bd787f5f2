-- Texts of rows, one at a time.
use Rattle.std.proofs.Common.{◌≡◌, ℕ, ◌+◌, ◌<◌, ◌≤◌, min, ⊎_elim, List, [], ◌∷◌, ◌++◌, length, get_or, drop, drop_of_length-le, codes, refl, sym, ap, ◌∙◌, arith}
use Rattle.std.specs.Prelude.{◌==◌, if◌then◌else◌}
use Rattle.std.proofs.lemmas.List.{drop_more, get_or-map, get_or_default, length-map}
use Rattle.vx_dtype.specs.declared.dtype.DType.{DType}
use Rattle.vx_dtype.proofs.Commas.{behind, written_next, written_all}
use Rattle.vx_dtype.proofs.Pairs.{fields_next, fields_end, min_cases}
use Rattle.vx_value.specs.Types.{Name, LogicalType, no_field, Datum, null, Data, no_datum, datum}
use Rattle.vx_value.specs.Fields.{data_of, field_count}
use Rattle.vx_value.specs.StructColumns.{row_at}
use Rattle.vx_value.specs.ValueTexts.{value_text, item_texts, row_texts}
use Rattle.vx_value.specs.Views.{type_of, fields_view}
use Rattle.vx_array.specs.declared.lanes.Lanes.{Lanes}
use Rattle.vx_array.specs.Rows.{lanes_rows, lanes_each}

rows_next : (vs : List Datum) (i : ℕ) (v : Datum) → i < length vs → v ≡ get_or vs i v → data_of (drop i vs) ≡ datum v (data_of (drop (i + 1) vs))
rows_next vs i v h p = ap data_of (drop_more vs i v h ∙ ap (λ x. x ∷ drop (i + 1) vs) (sym p))

-- ---- rows

-- the texts of the rows from the i-th on
abbrev pub items_from : ℕ → List Datum → LogicalType → List (List ℕ)
items_from i vs t = item_texts (data_of (drop i vs)) t

pub items_next : (vs : List Datum) (t : LogicalType) (i : ℕ) (v : Datum) (done separator all : List ℕ) → i < length vs → v ≡ get_or vs i v
    → separator ≡ (if i == 0 then [] else codes ", ")
    → done ++ behind i (items_from i vs t) ≡ all
    → ((done ++ separator) ++ value_text v t) ++ behind (i + 1) (items_from (i + 1) vs t) ≡ all
items_next vs t i v done separator all h p s e =
    written_next i done separator _ all _ s (ap (λ d. done ++ behind i (item_texts d t)) (sym (rows_next vs i v h p)) ∙ e)

pub items_all : (vs : List Datum) (t : LogicalType) (i : ℕ) (done all : List ℕ) → length vs ≤ i → done ++ behind i (items_from i vs t) ≡ all → done ≡ all
items_all vs t i done all h e =
    written_all i done all (ap (λ ds. done ++ behind i (item_texts (data_of ds) t)) (sym (drop_of_length-le vs h)) ∙ e)

-- ---- values behind their fields' names

-- the texts of the values from the i-th on
abbrev pub fields_from : ℕ → List Name → List Datum → List DType → List (List ℕ)
fields_from i names vs types = row_texts (data_of (drop i vs)) (fields_view (drop i names) (drop i types))

pub fields_text_next : (names : List Name) (vs : List Datum) (types : List DType) (i : ℕ) (a : Name) (v : Datum) (t : DType) (done separator all : List ℕ)
    → i < length names → i < length vs → i < length types
    → a ≡ get_or names i a → v ≡ get_or vs i v → t ≡ get_or types i t → separator ≡ (if i == 0 then [] else codes ", ")
    → done ++ behind i (fields_from i names vs types) ≡ all
    → ((done ++ separator) ++ (a ++ (codes ": " ++ value_text v (type_of t)))) ++ behind (i + 1) (fields_from (i + 1) names vs types) ≡ all
fields_text_next names vs types i a v t done separator all h k l p q r s e =
    let here : fields_from i names vs types ≡ (a ++ (codes ": " ++ value_text v (type_of t))) ∷ fields_from (i + 1) names vs types =
    rw (rows_next vs i v k q, fields_next names types i a t h l p r) in
    written_next i done separator _ all _ s (ap (λ ts. done ++ behind i ts) (sym here) ∙ e)

no_row : (d : Data) → row_texts d no_field ≡ []
no_row no_datum = refl
no_row (datum v vs) = refl

row_end : (names : List Name) (vs : List Datum) (types : List DType) (i : ℕ) → min (length vs) (field_count (fields_view names types)) ≤ i → fields_from i names vs types ≡ []
row_end names vs types i h =
    ⊎_elim (λ (a : length vs ≤ i). rw (drop_of_length-le vs a))
    (λ (b : field_count (fields_view names types) ≤ i). ap (row_texts (data_of (drop i vs))) (fields_end names types i b) ∙ no_row _)
    (min_cases (length vs) (field_count (fields_view names types)) i h)

pub fields_text_all : (names : List Name) (vs : List Datum) (types : List DType) (i : ℕ) (done all : List ℕ) → min (length vs) (field_count (fields_view names types)) ≤ i
    → done ++ behind i (fields_from i names vs types) ≡ all → done ≡ all
fields_text_all names vs types i done all h e =
    written_all i done all (ap (λ ts. done ++ behind i ts) (sym (row_end names vs types i h)) ∙ e)

-- ---- a row of some lanes

pub row_long : (k : ℕ) (ls : List Lanes) → length (row_at k (lanes_each ls)) ≡ length ls
row_long k ls = length-map (lanes_each ls) (λ rows. get_or rows k null) ∙ length-map ls lanes_rows

pub row_there : (k : ℕ) (ls : List Lanes) (i : ℕ) (l : Lanes) → i < length ls → l ≡ get_or ls i l → get_or (lanes_rows l) k null ≡ get_or (row_at k (lanes_each ls)) i (get_or (lanes_rows l) k null)
row_there k ls i l lt p =
    let value = λ (rows : List Datum). get_or rows k null in
    let each : i < length (lanes_each ls) = omega (arith, length-map ls lanes_rows) in
    sym (get_or-map value (lanes_each ls) i (lanes_rows l) (value (lanes_rows l)) each ∙ ap value (get_or-map lanes_rows ls i l (lanes_rows l) lt ∙ ap lanes_rows (sym p)))

-- a row that is there, whatever stands in place of those that aren't
pub is_there : (vs : List Datum) (i : ℕ) → i < length vs → get_or vs i null ≡ get_or vs i (get_or vs i null)
is_there vs i lt = get_or_default vs i null (get_or vs i null) lt
