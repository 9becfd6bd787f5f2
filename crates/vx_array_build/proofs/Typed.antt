-- The types and the rows of lanes of each kind.
use Rattle.std.proofs.Common.{◌≡◌, refl, List, map, ap, ◌∙◌, rules, Bool, ℤ}
use Rattle.std.specs.Prelude.{Option, is_some}
use Rattle.vx_dtype.specs.declared.dtype.DType.{DType, the_lemmas as the_types}
use Rattle.vx_dtype.specs.declared.dtype.Nullability.{Nullability}
use Rattle.vx_value.specs.Types.{LogicalType, ty, atomic, truth, text, octets, shape_of, with_nullability, Datum, bool, int, bytes}
use Rattle.vx_value.specs.Views.{admits_null, type_of}
use Rattle.vx_array.specs.declared.lanes.Lanes as Kind
use Rattle.vx_array.specs.declared.numbers.Numbers.{Numbers}
use Rattle.vx_array.specs.declared.spans.Spans.{Spans}
use Rattle.vx_array.specs.declared.validity.Validity.{Validity}
use Rattle.vx_array.specs.Kinds.{numbers_in, spans_in, text_row}
use Rattle.vx_array.specs.Rows.{lanes_rows}
use Rattle.vx_array.specs.Shown.{shown}
use Rattle.vx_array.proofs.Held.{rows-Bools, rows-Numbers, rows-Octets, rows-Texts}
use Rattle.vx_array_build.specs.Built.{shown_by}

pub bool_typed : (n : Nullability) (v : Option Validity) → admits_null n ≡ is_some v → type_of (DType.Bool n) ≡ ty (atomic truth) (is_some v)
bool_typed n v so = let t : type_of (DType.Bool n) ≡ ty (atomic truth) (admits_null n) = search (rules, the_types) in t ∙ ap (ty (atomic truth)) so

with_shape : (t : LogicalType) (n : Bool) → with_nullability n t ≡ ty (shape_of t) n
with_shape (ty s m) n = refl

pub lane_typed : (dtype : DType) (t : LogicalType) (n : Nullability) (v : Option Validity) → type_of dtype ≡ with_nullability (admits_null n) t → admits_null n ≡ is_some v → type_of dtype ≡ ty (shape_of t) (is_some v)
lane_typed dtype t n v is so = is ∙ with_shape t (admits_null n) ∙ ap (ty (shape_of t)) so

pub text_typed : (n : Nullability) (v : Option Validity) → admits_null n ≡ is_some v → type_of (DType.Utf8 n) ≡ ty (atomic text) (is_some v)
text_typed n v so = let t : type_of (DType.Utf8 n) ≡ ty (atomic text) (admits_null n) = search (rules, the_types) in t ∙ ap (ty (atomic text)) so

pub octets_typed : (n : Nullability) (v : Option Validity) → admits_null n ≡ is_some v → type_of (DType.Binary n) ≡ ty (atomic octets) (is_some v)
octets_typed n v so = let t : type_of (DType.Binary n) ≡ ty (atomic octets) (admits_null n) = search (rules, the_types) in t ∙ ap (ty (atomic octets)) so

pub bools_are : (bits bs : List Bool) (w : Validity) (v : Option Validity) → bits ≡ bs → ((ds : List Datum) → shown w ds ≡ shown_by v ds) → lanes_rows (Kind.Bools bits w) ≡ shown_by v (map bool bs)
bools_are bits bs w v is so = rows-Bools bits w ∙ ap (λ l. shown w (map bool l)) is ∙ so (map bool bs)

pub numbers_are : (ns : Numbers) (zs : List ℤ) (w : Validity) (v : Option Validity) → numbers_in ns ≡ zs → ((ds : List Datum) → shown w ds ≡ shown_by v ds) → lanes_rows (Kind.Numbers ns w) ≡ shown_by v (map int zs)
numbers_are ns zs w v is so = rows-Numbers ns w ∙ ap (λ l. shown w (map int l)) is ∙ so (map int zs)

pub texts_are : (s : Spans) (ds : List Datum) (w : Validity) (v : Option Validity) → map text_row (spans_in s) ≡ ds → ((ds : List Datum) → shown w ds ≡ shown_by v ds) → lanes_rows (Kind.Texts s w) ≡ shown_by v ds
texts_are s ds w v is so = rows-Texts s w ∙ ap (shown w) is ∙ so ds

pub octets_are : (s : Spans) (ds : List Datum) (w : Validity) (v : Option Validity) → map bytes (spans_in s) ≡ ds → ((ds : List Datum) → shown w ds ≡ shown_by v ds) → lanes_rows (Kind.Octets s w) ≡ shown_by v ds
octets_are s ds w v is so = rows-Octets s w ∙ ap (shown w) is ∙ so ds
