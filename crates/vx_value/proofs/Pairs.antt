-- Values and the fields of a struct side by side, one at a time.
use Rattle.std.proofs.Common.{◌≡◌, ◌≢◌, ℕ, ◌+◌, ◌<◌, ◌≤◌, List, [], length, get_or, drop, drop-cons, drop_of_length-le, add-one, refl, sym, ap, ◌∙◌, true, false, Bool}
use Rattle.std.specs.Prelude.{◌&&◌}
use Rattle.std.proofs.Math.Bool.{and-false}
use Rattle.vx_dtype.specs.declared.dtype.DType.{DType}
use Rattle.vx_value.specs.declared.value.Value.{Value}
use Rattle.vx_value.specs.Types.{Name, Fields, no_field, field, Data, no_datum, datum}
use Rattle.vx_value.specs.Fits.{count, fits, fields_fit}
use Rattle.vx_value.specs.Fields.{field_count}
use Rattle.vx_value.specs.Views.{type_of, fields_view, value_of, data_view}
use Rattle.vx_dtype.proofs.Pairs.{fields_step, fields_end}

pub fields_fit_count : (vs : Data) (fs : Fields) → count vs ≢ field_count fs → false ≡ fields_fit vs fs
fields_fit_count no_datum no_field h = absurd (h refl)
fields_fit_count no_datum (field a t fs) h = refl
fields_fit_count (datum v vs) no_field h = refl
fields_fit_count (datum v vs) (field a t fs) h = rw (← fields_fit_count vs fs (λ e. h (ap (λ n. n + 1) e)), and-false)

pub and_goes : {b d : Bool} (c : Bool) → true ≡ b → d ≡ (b && c) → d ≡ c
and_goes c p q = q ∙ sym (ap (λ x. x && c) p)

pub fields_fit_next : (values : List Value) (names : List Name) (types : List DType) (i : ℕ) (v : Value) (t : DType) (all : Bool)
    → i < length values → i < length names → i < length types → v ≡ get_or values i v → t ≡ get_or types i t
    → all ≡ fields_fit (data_view (drop i values)) (fields_view (drop i names) (drop i types))
    → all ≡ (fits (value_of v) (type_of t) && fields_fit (data_view (drop (i + 1) values)) (fields_view (drop (i + 1) names) (drop (i + 1) types)))
fields_fit_next values names types i v t all h k l p q e =
    let a : data_view (drop i values) ≡ datum (value_of v) (data_view (drop (i + 1) values)) = rw (add-one, drop-cons values i v h, ← p) in
    let b = fields_step names types i [] t k l q in
    e ∙ rw (a, b)

pub fields_fit_end : (values : List Value) (names : List Name) (types : List DType) (i : ℕ) → length values ≤ i → field_count (fields_view names types) ≤ i
    → fields_fit (data_view (drop i values)) (fields_view (drop i names) (drop i types)) ≡ true
fields_fit_end values names types i h k = rw (drop_of_length-le values h, fields_end names types i k)
