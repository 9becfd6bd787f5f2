-- Which types a text can say, and how deep they are nested.
use Rattle.std.specs.Prelude.{ℕ, ◌+◌, ◌<◌, ◌≤◌, ◌^◌, max, Some}
use Rattle.std.specs.Str.{IsUtf8}
use Rattle.vx_dtype.specs.Types.{Atomic, decimals, timestamp, LogicalType, ty, Shape, atomic, list, fixed, struct, Fields, no_field, field}

-- how many brackets are open at most at one place of the type's text
abbrev mutual
  pub type_nesting : LogicalType → ℕ
  type_nesting (ty s n) = shape_nesting s

  pub shape_nesting : Shape → ℕ
  shape_nesting (atomic p) = 0
  shape_nesting (list t) = type_nesting t + 1
  shape_nesting (fixed t k) = type_nesting t + 1
  shape_nesting (struct fs) = fields_nesting fs + 1

  pub fields_nesting : Fields → ℕ
  fields_nesting no_field = 0
  fields_nesting (field a t fs) = max (type_nesting t) (fields_nesting fs)

-- what each type without others in it has: a precision from 1 to 38, a scale of at most that, and a zone that is UTF-8
abbrev pub IsPrintableAtomic : Atomic → Type 0
IsPrintableAtomic (decimals p s) = (1 ≤ p) × (p ≤ 38) × (s ≤ p)
IsPrintableAtomic (timestamp u (Some z)) = IsUtf8 z
IsPrintableAtomic _ = Unit {0}

-- what each type of the program has: that, names that are UTF-8, and lengths below 2 ^ 32
abbrev mutual
  pub IsPrintable : LogicalType → Type 0
  IsPrintable (ty s n) = IsPrintableShape s

  pub IsPrintableShape : Shape → Type 0
  IsPrintableShape (atomic p) = IsPrintableAtomic p
  IsPrintableShape (list t) = IsPrintable t
  IsPrintableShape (fixed t k) = (k < 2 ^ 32) × IsPrintable t
  IsPrintableShape (struct fs) = ArePrintable fs

  pub ArePrintable : Fields → Type 0
  ArePrintable no_field = Unit {0}
  ArePrintable (field a t fs) = IsUtf8 a × IsPrintable t × ArePrintable fs
