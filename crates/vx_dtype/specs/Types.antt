-- Types, seen without pointers: the field's own data, in place of the program's.
use Rattle.std.specs.Prelude.{ℕ, Bool, true, false, ◌==◌, ◌&&◌, List, Option, Some, None}
use Rattle.std.specs.Str.{bytes_eq}
use Rattle.vx_dtype.specs.declared.dtype.PType.{PType}
use Rattle.vx_dtype.specs.declared.dtype.PType.TheVariants.{U8, U16, U32, U64, I8, I16, I32, I64}
use Rattle.vx_dtype.specs.declared.float_type.FloatType.{FloatType}
use Rattle.vx_dtype.specs.declared.float_type.FloatType.TheVariants.{F32, F64}
use Rattle.vx_dtype.specs.declared.timestamp_type.TimeUnit.{TimeUnit}
use Rattle.vx_dtype.specs.declared.timestamp_type.TimeUnit.TheVariants.{Seconds, Milliseconds, Microseconds, Nanoseconds}

-- a name is its bytes
abbrev pub Name : Type 0
Name = List ℕ

-- how many bits the magnitude of a number of the type has
abbrev pub bits : PType → ℕ
bits U8 = 8
bits U16 = 16
bits U32 = 32
bits U64 = 64
bits I8 = 7
bits I16 = 15
bits I32 = 31
bits I64 = 63

-- whether the type has numbers below zero
abbrev pub is_signed : PType → Bool
is_signed U8 = false
is_signed U16 = false
is_signed U32 = false
is_signed U64 = false
is_signed _ = true

-- the place of a number type among the eight
abbrev pub ptype_index : PType → ℕ
ptype_index U8 = 0
ptype_index U16 = 1
ptype_index U32 = 2
ptype_index U64 = 3
ptype_index I8 = 4
ptype_index I16 = 5
ptype_index I32 = 6
ptype_index I64 = 7

-- whether two number types are the same
abbrev pub same_ptype : PType → PType → Bool
same_ptype p q = ptype_index p == ptype_index q

-- the place of a format among the two
abbrev pub float_type_index : FloatType → ℕ
float_type_index F32 = 0
float_type_index F64 = 1

-- whether two formats are the same
abbrev pub same_float_type : FloatType → FloatType → Bool
same_float_type f g = float_type_index f == float_type_index g

-- the place of a unit among the four
abbrev pub unit_index : TimeUnit → ℕ
unit_index Seconds = 0
unit_index Milliseconds = 1
unit_index Microseconds = 2
unit_index Nanoseconds = 3

-- whether two units are the same
abbrev pub same_unit : TimeUnit → TimeUnit → Bool
same_unit u v = unit_index u == unit_index v

-- whether there are two zones of one name, or none
abbrev pub same_zone : Option Name → Option Name → Bool
same_zone None None = true
same_zone (Some a) (Some b) = bytes_eq a b
same_zone None (Some b) = false
same_zone (Some a) None = false

-- the kinds of type whose values are compared, and that a fill may have: truth values; whole numbers; floating-point numbers of
-- a format; decimals of a precision and a scale; days; instants in a unit, with the name of a zone or none; texts; bytes
pub data Atomic : Type 0 where
  truth : Atomic
  number : PType → Atomic
  floating : FloatType → Atomic
  decimals : ℕ → ℕ → Atomic
  date : Atomic
  timestamp : TimeUnit → Option Name → Atomic
  text : Atomic
  octets : Atomic

-- whether two such kinds are the same
abbrev pub same_atomic : Atomic → Atomic → Bool
same_atomic truth truth = true
same_atomic (number p) (number q) = same_ptype p q
same_atomic (floating f) (floating g) = same_float_type f g
same_atomic (decimals p s) (decimals q r) = (p == q) && (s == r)
same_atomic date date = true
same_atomic (timestamp u z) (timestamp v y) = same_unit u v && same_zone z y
same_atomic text text = true
same_atomic octets octets = true
same_atomic _ _ = false

-- a type is its shape, and whether it is nullable; a struct's shape is its fields, each a name with its type
mutual
  pub data LogicalType : Type 0 where
    ty : Shape → Bool → LogicalType

  -- what a type is but for its outer nullability
  pub data Shape : Type 0 where
    atomic : Atomic → Shape
    list : LogicalType → Shape
    fixed : LogicalType → ℕ → Shape
    struct : Fields → Shape

  -- the fields of a struct in their order
  pub data Fields : Type 0 where
    no_field : Fields
    field : Name → LogicalType → Fields → Fields

-- the type without its outer nullability
abbrev pub shape_of : LogicalType → Shape
shape_of (ty s n) = s

-- the fields of a struct type
abbrev pub struct_fields : LogicalType → Option Fields
struct_fields (ty (struct fs) n) = Some fs
struct_fields _ = None

-- the type of the items of a type of lists, of any length or of one, if it is one
abbrev pub items_type : LogicalType → Option LogicalType
items_type (ty (list t) n) = Some t
items_type (ty (fixed t k) n) = Some t
items_type _ = None

-- whether null is a value of the type
abbrev pub is_nullable : LogicalType → Bool
is_nullable (ty s n) = n

-- the type with another outer nullability
abbrev pub with_nullability : Bool → LogicalType → LogicalType
with_nullability n (ty s _) = ty s n
