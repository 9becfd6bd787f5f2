-- How two types relate: equal but for nullability, joined, one narrower than the other.
use Rattle.std.specs.Prelude.{ℕ, Bool, true, false, ◌&&◌, ◌||◌, ◌==◌, List, [], ◌∷◌, Option, Some, None, option_and_then, if◌then◌else◌, IsTrue}
use Rattle.std.specs.Str.{bytes_eq}
use Rattle.vx_dtype.specs.Lists.{Forall2}
use Rattle.vx_dtype.specs.Types.{Name, Atomic, same_atomic, LogicalType, ty, Shape, atomic, list, fixed, struct, Fields, no_field, field}

-- whether two types differ in nullability alone, at every level
abbrev mutual
  pub same_base : LogicalType → LogicalType → Bool
  same_base (ty s n) (ty r m) = same_base_shape s r

  -- whether two shapes differ in nullability alone
  pub same_base_shape : Shape → Shape → Bool
  same_base_shape (atomic p) (atomic q) = same_atomic p q
  same_base_shape (list t) (list u) = same_base t u
  same_base_shape (fixed t k) (fixed u l) = (k == l) && same_base t u
  same_base_shape (struct fs) (struct gs) = same_base_fields fs gs
  same_base_shape _ _ = false

  -- whether two structs have the same names, and types that differ in nullability alone
  pub same_base_fields : Fields → Fields → Bool
  same_base_fields no_field no_field = true
  same_base_fields (field a t fs) (field b u gs) = bytes_eq a b && same_base t u && same_base_fields fs gs
  same_base_fields _ _ = false

-- the first type, nullable at each place where one of the two is
abbrev mutual
  pub join : LogicalType → LogicalType → LogicalType
  join (ty s n) (ty r m) = ty (join_shape s r) (n || m)

  -- the first shape, nullable at each place where one of the two is
  pub join_shape : Shape → Shape → Shape
  join_shape (list t) (list u) = list (join t u)
  join_shape (fixed t k) (fixed u l) = fixed (join t u) k
  join_shape (struct fs) (struct gs) = struct (join_fields fs gs)
  join_shape s _ = s

  -- the first fields, nullable at each place where one of the two is
  pub join_fields : Fields → Fields → Fields
  join_fields (field a t fs) (field b u gs) = field a (join t u) (join_fields fs gs)
  join_fields fs _ = fs

-- the union of two types: there where they differ in nullability alone
abbrev pub union : LogicalType → LogicalType → Option LogicalType
union t u = if same_base t u then Some (join t u) else None

-- the union of a type with all of the others, one after another
abbrev pub union_all : LogicalType → List LogicalType → Option LogicalType
union_all t [] = Some t
union_all t (u ∷ us) = option_and_then (λ w. union_all w us) (union t u)

-- the union of types, if there is one and a type of which it is
abbrev pub union_of : List LogicalType → Option LogicalType
union_of [] = None
union_of (t ∷ ts) = union_all t ts

-- the same type, but that the second may be nullable at more places
mutual
  pub data Narrower : LogicalType → LogicalType → Type 0 where
    narrower : {s r : Shape} {n m : Bool} → NarrowerShape s r → (IsTrue n → IsTrue m) → Narrower (ty s n) (ty r m)

  -- the same shape, over types of which each second may be nullable at more places
  pub data NarrowerShape : Shape → Shape → Type 0 where
    same_atomic_shape : {p : Atomic} → NarrowerShape (atomic p) (atomic p)
    narrower_list : {t u : LogicalType} → Narrower t u → NarrowerShape (list t) (list u)
    narrower_fixed : {t u : LogicalType} {k : ℕ} → Narrower t u → NarrowerShape (fixed t k) (fixed u k)
    narrower_struct : {fs gs : Fields} → NarrowerFields fs gs → NarrowerShape (struct fs) (struct gs)

  -- the same names, over types of which each second may be nullable at more places
  pub data NarrowerFields : Fields → Fields → Type 0 where
    no_fields : NarrowerFields no_field no_field
    narrower_field : {a : Name} {t u : LogicalType} {fs gs : Fields} → Narrower t u → NarrowerFields fs gs → NarrowerFields (field a t fs) (field a u gs)

-- each type is narrower than the one beside it
abbrev pub NarrowerEach : List LogicalType → List LogicalType → Type 0
NarrowerEach = Forall2 Narrower
