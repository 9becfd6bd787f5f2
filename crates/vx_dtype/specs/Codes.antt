-- Scaffolding: a code of types, so that they may be what a `Model` shows.
use Rattle.std.specs.Prelude.{◌≡◌, Option, refl}
use Rattle.std.specs.Coded.{Coded, coded_ℕ, coded_bool, coded_list, coded_option}
use Rattle.std.proofs.Common.{ap}
use base.Stored.{Gv, gnil, gnum, gcons}
use Rattle.vx_dtype.specs.declared.dtype.PType.{PType}
use Rattle.vx_dtype.specs.declared.dtype.PType.TheVariants.{U8, U16, U32, U64, I8, I16, I32, I64}
use Rattle.vx_dtype.specs.declared.float_type.FloatType.{FloatType}
use Rattle.vx_dtype.specs.declared.float_type.FloatType.TheVariants.{F32, F64}
use Rattle.vx_dtype.specs.declared.timestamp_type.TimeUnit.{TimeUnit}
use Rattle.vx_dtype.specs.declared.timestamp_type.TimeUnit.TheVariants.{Seconds, Milliseconds, Microseconds, Nanoseconds}
use Rattle.vx_dtype.specs.Types.{Name, ptype_index, float_type_index, unit_index, Atomic, truth, number, floating, decimals, date, timestamp, text, octets, LogicalType, ty, Shape, atomic, list, fixed, struct, Fields, no_field, field}

-- a name, by its bytes
abbrev pub name_code : Coded Name
name_code = coded_list coded_ℕ

-- number types at one place are the same
inj_ptype : (p q : PType) → ptype_index p ≡ ptype_index q → p ≡ q
inj_ptype U8 U8 h = refl
inj_ptype U16 U16 h = refl
inj_ptype U32 U32 h = refl
inj_ptype U64 U64 h = refl
inj_ptype I8 I8 h = refl
inj_ptype I16 I16 h = refl
inj_ptype I32 I32 h = refl
inj_ptype I64 I64 h = refl
inj_ptype _ _ h = cc

-- formats at one place are the same
inj_float_type : (f g : FloatType) → float_type_index f ≡ float_type_index g → f ≡ g
inj_float_type F32 F32 h = refl
inj_float_type F64 F64 h = refl
inj_float_type _ _ h = cc

-- units at one place are the same
inj_unit : (u v : TimeUnit) → unit_index u ≡ unit_index v → u ≡ v
inj_unit Seconds Seconds h = refl
inj_unit Milliseconds Milliseconds h = refl
inj_unit Microseconds Microseconds h = refl
inj_unit Nanoseconds Nanoseconds h = refl
inj_unit _ _ h = cc

-- a zone, by whether there is one and its name
abbrev pub zone_code : Coded (Option Name)
zone_code = coded_option name_code

-- a kind of type, by its number and what it holds
abbrev code_atomic : Atomic → Gv
code_atomic truth = gcons (gnum 0) gnil
code_atomic (number p) = gcons (gnum 1) (gnum (ptype_index p))
code_atomic (floating f) = gcons (gnum 7) (gnum (float_type_index f))
code_atomic (decimals p s) = gcons (gnum 4) (gcons (gnum p) (gnum s))
code_atomic date = gcons (gnum 5) gnil
code_atomic (timestamp u z) = gcons (gnum 6) (gcons (gnum (unit_index u)) (zone_code.code z))
code_atomic text = gcons (gnum 2) gnil
code_atomic octets = gcons (gnum 3) gnil

-- kinds of one code are the same
inj_atomic : (p q : Atomic) → code_atomic p ≡ code_atomic q → p ≡ q
inj_atomic truth truth h = refl
inj_atomic (number p) (number q) h = ap number (inj_ptype p q cc)
inj_atomic (floating f) (floating g) h = ap floating (inj_float_type f g cc)
inj_atomic (decimals p s) (decimals q r) h = cc
inj_atomic date date h = refl
inj_atomic (timestamp u z) (timestamp v y) h = let a = inj_unit u v cc in let b = zone_code.inj z y cc in cc
inj_atomic text text h = refl
inj_atomic octets octets h = refl
inj_atomic _ _ h = cc

-- a type, by its nullability and its shape
abbrev mutual
  pub code_type : LogicalType → Gv
  code_type (ty s n) = gcons (coded_bool.code n) (code_shape s)

  -- a shape, by its number and what it holds
  pub code_shape : Shape → Gv
  code_shape (atomic p) = gcons (gnum 0) (code_atomic p)
  code_shape (list t) = gcons (gnum 1) (code_type t)
  code_shape (fixed t k) = gcons (gnum 2) (gcons (gnum k) (code_type t))
  code_shape (struct fs) = gcons (gnum 3) (code_fields fs)

  -- fields, one after another
  pub code_fields : Fields → Gv
  code_fields no_field = gnil
  code_fields (field a t fs) = gcons (name_code.code a) (gcons (code_type t) (code_fields fs))

-- types of one code are the same
mutual
  pub inj_type : (t u : LogicalType) → code_type t ≡ code_type u → t ≡ u
  inj_type (ty s n) (ty r m) p = let a = coded_bool.inj n m cc in let b = inj_shape s r cc in cc

  -- shapes of one code are the same
  pub inj_shape : (s r : Shape) → code_shape s ≡ code_shape r → s ≡ r
  inj_shape (atomic q) (atomic r) p = ap atomic (inj_atomic q r cc)
  inj_shape (list t) (list u) p = ap list (inj_type t u cc)
  inj_shape (fixed t k) (fixed u l) p = let a = inj_type t u cc in cc
  inj_shape (struct fs) (struct gs) p = ap struct (inj_fields fs gs cc)
  inj_shape _ _ p = cc

  -- fields of one code are the same
  pub inj_fields : (fs gs : Fields) → code_fields fs ≡ code_fields gs → fs ≡ gs
  inj_fields no_field no_field p = refl
  inj_fields (field a t fs) (field b u gs) p = let x = name_code.inj a b cc in let y = inj_type t u cc in let z = inj_fields fs gs cc in cc
  inj_fields _ _ p = cc

-- types may be what a `Model` shows
abbrev pub type_code : Coded LogicalType
type_code = record { code = code_type; inj = inj_type }
