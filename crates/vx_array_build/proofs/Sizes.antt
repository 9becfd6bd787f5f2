-- How deep types are: those of a struct's fields are smaller than the struct. A measure for recursions over types.
use Rattle.std.proofs.Common.{◌≡◌, ℕ, zero, suc, ◌+◌, ◌<◌, List, [], ◌∷◌, get_or, ap, arith}
use Rattle.vx_dtype.specs.declared.dtype.DType.{DType}
use Rattle.vx_value.specs.Fields.{field_count}
use Rattle.vx_value.specs.Types.{Name, LogicalType, ty, Shape, atomic, list, fixed, struct, Fields, no_field, field}
use Rattle.vx_value.specs.Views.{type_of, fields_view}

-- how many types and fields there are in a type
abbrev mutual
  pub type_size : LogicalType → ℕ
  type_size (ty s n) = shape_size s + 1

  pub shape_size : Shape → ℕ
  shape_size (atomic p) = 0
  shape_size (list t) = type_size t
  shape_size (fixed t k) = type_size t
  shape_size (struct fs) = fields_size fs

  pub fields_size : Fields → ℕ
  fields_size no_field = 0
  fields_size (field a t fs) = type_size t + fields_size fs + 1

-- a field's type is smaller
pub smaller_at : (names : List Name) (types : List DType) (i : ℕ) (t : DType) → i < field_count (fields_view names types) → t ≡ get_or types i t → type_size (type_of t) < fields_size (fields_view names types)
smaller_at [] types i t h e = absurd (omega arith)
smaller_at (a ∷ names) [] i t h e = absurd (omega arith)
smaller_at (a ∷ names) (u ∷ types) zero t h e = let q : type_size (type_of t) ≡ type_size (type_of u) = ap (λ x. type_size (type_of x)) e in omega arith
smaller_at (a ∷ names) (u ∷ types) (suc i) t h e = let q = smaller_at names types i t (omega arith) e in omega arith
