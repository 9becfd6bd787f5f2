-- When two types are equal, as tests that decide `≡`.
use Rattle.std.specs.Prelude.{Bool, true, false, ◌&&◌, ◌==◌}
use Rattle.std.specs.Bool.{beq}
use Rattle.std.specs.Str.{bytes_eq}
use Rattle.vx_dtype.specs.Types.{same_atomic, LogicalType, ty, Shape, atomic, list, fixed, struct, Fields, no_field, field}

-- whether two types are the same, nullability and names included
abbrev mutual
  pub equal_type : LogicalType → LogicalType → Bool
  equal_type (ty s n) (ty r m) = beq n m && equal_shape s r

  -- whether two shapes are the same
  pub equal_shape : Shape → Shape → Bool
  equal_shape (atomic p) (atomic q) = same_atomic p q
  equal_shape (list t) (list u) = equal_type t u
  equal_shape (fixed t k) (fixed u l) = k == l && equal_type t u
  equal_shape (struct fs) (struct gs) = equal_fields fs gs
  equal_shape _ _ = false

  -- whether two structs have the same names and types in the same order
  pub equal_fields : Fields → Fields → Bool
  equal_fields no_field no_field = true
  equal_fields (field a t fs) (field b u gs) = bytes_eq a b && (equal_type t u && equal_fields fs gs)
  equal_fields _ _ = false
