-- Types as source text: how deep the type of a field is nested, and source text as a notation.
use Rattle.std.proofs.Common.{◌≡◌, ℕ, ◌<◌, ◌≤◌, zero, suc, List, [], ◌∷◌, ◌++◌, length, get_or, codes, refl, ap, arith}
use Rattle.std.specs.Fmt.{decimal}
use Rattle.vx_dtype.specs.declared.dtype.DType.{DType}
use Rattle.vx_dtype.specs.Types.{Name, LogicalType, ty, Shape, atomic, list, fixed, struct, Fields, no_field, field}
use Rattle.vx_dtype.specs.Notations.{type_in, shape_in, fields_in}
use Rattle.vx_dtype.specs.Texts.{with_commas, mark}
use Rattle.vx_dtype.specs.Views.{type_of, fields_view}
use Rattle.vx_source_types.specs.Names.{name_source}
use Rattle.vx_source_types.specs.TypePrintable.{type_nesting, fields_nesting}
use Rattle.vx_source_types.specs.TypeTexts.{type_source, shape_source, field_sources}

-- no field's type is nested deeper than the fields
pub field_nested : (names : List Name) (types : List DType) (i : ℕ) (t : DType) (fs : Fields) → i < length names → i < length types → t ≡ get_or types i t → fields_view names types ≡ fs
    → type_nesting (type_of t) ≤ fields_nesting fs
field_nested names types i t fs h k p e = rw (← e) (go names types i h k p) where
  go : (ns : List Name) (ts : List DType) (j : ℕ) → j < length ns → j < length ts → t ≡ get_or ts j t → type_nesting (type_of t) ≤ fields_nesting (fields_view ns ts)
  go [] ts j a b q = absurd (omega arith)
  go (n ∷ ns) [] j a b q = absurd (omega arith)
  go (n ∷ ns) (u ∷ ts) zero a b q = let same : type_nesting (type_of t) ≡ type_nesting (type_of u) = ap (λ v. type_nesting (type_of v)) q in omega arith
  go (n ∷ ns) (u ∷ ts) (suc j) a b q = let rest = go ns ts j (omega arith) (omega arith) q in omega arith

-- ---- source text is what its names make

mutual
  pub type_as_source : (t : LogicalType) → type_in name_source t ≡ type_source t
  type_as_source (ty s n) = ap (λ c. c ++ mark n) (shape_as_source s)

  shape_as_source : (s : Shape) → shape_in name_source s ≡ shape_source s
  shape_as_source (atomic p) = refl
  shape_as_source (list t) = ap (λ c. codes "list(" ++ (c ++ codes ")")) (type_as_source t)
  shape_as_source (fixed t k) = ap (λ c. codes "fixed_size_list(" ++ (c ++ (codes ")[" ++ (decimal k ++ codes "]")))) (type_as_source t)
  shape_as_source (struct fs) = ap (λ cs. codes "{" ++ (with_commas cs ++ codes "}")) (fields_as_sources fs)

  fields_as_sources : (fs : Fields) → fields_in name_source fs ≡ field_sources fs
  fields_as_sources no_field = refl
  fields_as_sources (field a t fs) = rw (type_as_source t, fields_as_sources fs) refl
