-- Texts with commas between them, and the text of a type.
use Rattle.std.specs.Prelude.{ℕ, Bool, true, false, List, [], ◌∷◌, ◌++◌, Option, Some, None, codes}
use Rattle.std.specs.Fmt.{decimal}
use Rattle.std.specs.List.{join_by}
use Rattle.vx_dtype.specs.declared.dtype.PType.{PType}
use Rattle.vx_dtype.specs.declared.dtype.PType.TheVariants.{U8, U16, U32, U64, I8, I16, I32, I64}
use Rattle.vx_dtype.specs.declared.float_type.FloatType.{FloatType}
use Rattle.vx_dtype.specs.declared.float_type.FloatType.TheVariants.{F32, F64}
use Rattle.vx_dtype.specs.declared.timestamp_type.TimeUnit.{TimeUnit}
use Rattle.vx_dtype.specs.declared.timestamp_type.TimeUnit.TheVariants.{Seconds, Milliseconds, Microseconds, Nanoseconds}
use Rattle.vx_dtype.specs.Quotes.{between_quotes}
use Rattle.vx_dtype.specs.Types.{Name, Atomic, truth, number, floating, decimals, date, timestamp, text, octets, LogicalType, ty, Shape, atomic, list, fixed, struct, Fields, no_field, field}

-- the texts, joined by `, `
abbrev pub with_commas : List (List ℕ) → List ℕ
with_commas = join_by (λ t. t) (codes ", ")

-- a question mark where the type is nullable
abbrev pub mark : Bool → List ℕ
mark false = []
mark true = codes "?"

-- the text of a number type
abbrev pub ptype_text : PType → List ℕ
ptype_text U8 = codes "u8"
ptype_text U16 = codes "u16"
ptype_text U32 = codes "u32"
ptype_text U64 = codes "u64"
ptype_text I8 = codes "i8"
ptype_text I16 = codes "i16"
ptype_text I32 = codes "i32"
ptype_text I64 = codes "i64"

-- the text of a format
abbrev pub float_type_text : FloatType → List ℕ
float_type_text F32 = codes "f32"
float_type_text F64 = codes "f64"

-- the text of a unit
abbrev pub unit_text : TimeUnit → List ℕ
unit_text Seconds = codes "s"
unit_text Milliseconds = codes "ms"
unit_text Microseconds = codes "us"
unit_text Nanoseconds = codes "ns"

-- a zone between quotes, behind a comma, if there is one
abbrev pub zone_text : Option Name → List ℕ
zone_text None = []
zone_text (Some a) = codes ", " ++ between_quotes 34 a

-- the text of such a kind
abbrev pub atomic_text : Atomic → List ℕ
atomic_text truth = codes "bool"
atomic_text (number p) = ptype_text p
atomic_text (floating f) = float_type_text f
atomic_text (decimals p s) = codes "decimal(" ++ (decimal p ++ (codes ", " ++ (decimal s ++ codes ")")))
atomic_text date = codes "date"
atomic_text (timestamp u z) = codes "timestamp(" ++ (unit_text u ++ (zone_text z ++ codes ")"))
atomic_text text = codes "utf8"
atomic_text octets = codes "binary"

-- the text of a type: that of its shape, marked where it is nullable
abbrev mutual
  pub type_text : LogicalType → List ℕ
  type_text (ty s n) = shape_text s ++ mark n

  -- the text of a shape
  pub shape_text : Shape → List ℕ
  shape_text (atomic p) = atomic_text p
  shape_text (list t) = codes "list(" ++ (type_text t ++ codes ")")
  shape_text (fixed t k) = codes "fixed_size_list(" ++ (type_text t ++ (codes ")[" ++ (decimal k ++ codes "]")))
  shape_text (struct fs) = codes "{" ++ (with_commas (field_texts fs) ++ codes "}")

  -- each field by its name and its type
  pub field_texts : Fields → List (List ℕ)
  field_texts no_field = []
  field_texts (field a t fs) = (a ++ (codes "=" ++ type_text t)) ∷ field_texts fs
