-- The names of a value's structs, one item at a time.
use Rattle.std.proofs.Common.{◌≡◌, ◌≢◌, ℕ, ◌+◌, ◌<◌, ◌≤◌, List, length, get_or, drop, drop_of_length-le, refl, sym, ap, ◌∙◌, Option, Some, None}
use Rattle.std.specs.Prelude.{option_and_then}
use Rattle.vx_dtype.specs.declared.dtype.DType.{DType}
use Rattle.vx_dtype.proofs.Pairs.{fields_next, fields_end}
use Rattle.vx_value.specs.declared.value.Value.{Value}
use Rattle.vx_value.specs.Types.{Name, LogicalType, Data, no_datum, datum, Fields, no_field, field}
use Rattle.vx_value.specs.Fields.{field_count}
use Rattle.vx_value.specs.Fits.{count}
use Rattle.vx_value.specs.Views.{type_of, fields_view, value_of, data_view}
use Rattle.vx_source_types.specs.Literals.{names_left, items_left, row_left, behind_name}
use Rattle.vx_source_types.proofs.ItemSources.{data_next}

-- no struct has another number of values than its type has fields
pub row_left_count : (vs : Data) (fs : Fields) (names : List Name) → count vs ≢ field_count fs → row_left vs fs names ≡ None
row_left_count no_datum no_field names h = absurd (h refl)
row_left_count no_datum (field a t fs) names h = refl
row_left_count (datum v vs) no_field names h = refl
row_left_count (datum v vs) (field a t fs) names h = go (option_and_then (names_left v t) (behind_name a names)) (λ ns. row_left_count vs fs ns (λ e. h (ap (λ n. n + 1) e))) where
  go : (o : Option (List Name)) → ((ns : List Name) → row_left vs fs ns ≡ None) → option_and_then (row_left vs fs) o ≡ None
  go None k = refl
  go (Some ns) k = k ns

pub items_left_next : (values : List Value) (t : LogicalType) (i : ℕ) (v : Value) (names : List Name) (all : Option (List Name)) → i < length values → v ≡ get_or values i v
    → items_left (data_view (drop i values)) t names ≡ all
    → option_and_then (items_left (data_view (drop (i + 1) values)) t) (names_left (value_of v) t names) ≡ all
items_left_next values t i v names all h p e = sym (ap (λ vs. items_left vs t names) (data_next values i v h p)) ∙ e

pub items_left_end : (values : List Value) (t : LogicalType) (i : ℕ) (names : List Name) → length values ≤ i → items_left (data_view (drop i values)) t names ≡ Some names
items_left_end values t i names h = rw (drop_of_length-le values h)

pub row_left_next : (known : List Name) (values : List Value) (types : List DType) (i : ℕ) (a : Name) (v : Value) (t : DType) (names : List Name) (all : Option (List Name))
    → i < length known → i < length values → i < length types
    → a ≡ get_or known i a → v ≡ get_or values i v → t ≡ get_or types i t
    → row_left (data_view (drop i values)) (fields_view (drop i known) (drop i types)) names ≡ all
    → option_and_then (row_left (data_view (drop (i + 1) values)) (fields_view (drop (i + 1) known) (drop (i + 1) types))) (option_and_then (names_left (value_of v) (type_of t)) (behind_name a names)) ≡ all
row_left_next known values types i a v t names all h k l p q r e =
    sym (ap (λ vs. row_left vs (fields_view (drop i known) (drop i types)) names) (data_next values i v k q)
    ∙ ap (λ fs. row_left (datum (value_of v) (data_view (drop (i + 1) values))) fs names) (fields_next known types i a t h l p r)) ∙ e

pub row_left_end : (known : List Name) (values : List Value) (types : List DType) (i : ℕ) (names : List Name) → length values ≤ i → field_count (fields_view known types) ≤ i
    → row_left (data_view (drop i values)) (fields_view (drop i known) (drop i types)) names ≡ Some names
row_left_end known values types i names h k = rw (drop_of_length-le values h, fields_end known types i k)

-- one step of either, where it goes on and where it doesn't
pub step_goes : {A B : Type 0} (f : A → Option B) (o : Option A) (x : A) (all : Option B) → o ≡ Some x → option_and_then f o ≡ all → f x ≡ all
step_goes f o x all p e = sym (ap (option_and_then f) p) ∙ e

pub step_ends : {A B : Type 0} (f : A → Option B) (o : Option A) (all : Option B) → o ≡ None → option_and_then f o ≡ all → all ≡ None
step_ends f o all p e = sym e ∙ ap (option_and_then f) p
