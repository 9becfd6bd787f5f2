-- Scalars of what was read.
use Rattle.std.specs.Prelude.{Bool, true, false, not, List, [], ◌∷◌, Option, Some, None, Result, Ok, Err, option_and_then, if◌then◌else◌}
use Rattle.std.specs.Str.{bytes_eq}
use Rattle.std.specs.Prelude.{ℕ}
use Rattle.vx_dtype.specs.declared.dtype.PType.{PType}
use Rattle.vx_dtype.specs.declared.dtype.PType.TheVariants.{I32, I64, U64}
use Rattle.vx_dtype.specs.declared.float_type.FloatType.TheVariants.{F64}
use Rattle.vx_floats.specs.Floats.{format_of}
use Rattle.vx_value.specs.Columns.{Constant, constant}
use Rattle.vx_value.specs.Fits.{fits}
use Rattle.vx_value.specs.Types.{Name, truth, number, floating, text, octets, LogicalType, ty, atomic, list, fixed, struct, Fields, no_field, field, Datum, null, bool, int, float, utf8, bytes, list_of, struct_of, Data, no_datum, datum}
use Rattle.vx_source_types.specs.declared.expectation.Expected.{Expected}
use Rattle.vx_source_types.specs.declared.expectation.Expected.TheVariants.{NullType, ValueType, Number}
use Rattle.vx_source_types.specs.Tokens.{is_whole}
use Rattle.vx_source_types.specs.TypeReading.{ptype_word}
use Rattle.vx_source_types.specs.Untyped.{typed_value, point_read}
use Rattle.vx_source_types.specs.ValueReading.{Drafted, drafted, pointed, signed}

-- the value as a scalar of that type, if it is one of it
abbrev pub fitting : LogicalType → Datum → Option Constant
fitting t v = if fits v t then Some (constant t v) else None

-- the number with a point as a scalar of that type, if it is one of it
abbrev pub point_literal : List ℕ → LogicalType → Option Constant
point_literal s t = option_and_then (fitting t) (point_read s t)

-- the number, if it is in the range of the type that is named behind it
abbrev pub ranged : Bool → Option ℕ → Option PType → Option Constant
ranged negative (Some n) (Some p) = fitting (ty (atomic (number p)) false) (int (signed negative n))
ranged negative _ _ = None

abbrev pub number_literal : Bool → Option ℕ → List ℕ → Option Constant
number_literal negative magnitude suffix = ranged negative magnitude (ptype_word suffix)

-- the type of a value that no type follows: a whole number alone is an i32, and a null needs its type
abbrev pub plain_type : Datum → Result LogicalType Expected
plain_type null = Err NullType
plain_type (bool b) = Ok (ty (atomic truth) false)
plain_type (int i) = Ok (ty (atomic (number I32)) false)
plain_type (float x) = Ok (ty (atomic (floating (format_of x))) false)
plain_type (utf8 s) = Ok (ty (atomic text) false)
plain_type (bytes bs) = Ok (ty (atomic octets) false)
plain_type (list_of vs) = Err ValueType
plain_type (struct_of vs) = Err ValueType

-- the scalar, or that a number of another range would have stood right
abbrev pub in_range : Option Constant → Result Constant Expected
in_range (Some c) = Ok c
in_range None = Err Number

abbrev pub plain_of : Datum → Result LogicalType Expected → Result Constant Expected
plain_of v (Ok t) = in_range (fitting t v)
plain_of v (Err e) = Err e

-- a number with a point alone is an f64, and a whole one from 2 ^ 64 on is in no range
abbrev pub plain_point : List ℕ → Option Constant
plain_point s = if is_whole s then None else point_literal s (ty (atomic (floating F64)) false)

abbrev pub plain_literal : Drafted → Result Constant Expected
plain_literal (drafted v names) = plain_of v (plain_type v)
plain_literal (pointed s) = in_range (plain_point s)

-- a type of a value that may take another one by what it stands beside: one of two, which differ in nullability, or for null
-- in all else
abbrev pub open_type : Bool → Datum → Result LogicalType Expected
open_type n null = Ok (ty (atomic (if n then text else truth)) true)
open_type n (bool b) = Ok (ty (atomic truth) n)
open_type n (int i) = Ok (ty (atomic (number (if fits (int i) (ty (atomic (number I64)) n) then I64 else U64))) n)
open_type n (float x) = Ok (ty (atomic (floating (format_of x))) n)
open_type n (utf8 s) = Ok (ty (atomic text) n)
open_type n (bytes bs) = Ok (ty (atomic octets) n)
open_type n (list_of vs) = Err ValueType
open_type n (struct_of vs) = Err ValueType

-- a number with a point stands there as its text, nullable where a text is not
abbrev pub open_literal : Bool → Drafted → Result Constant Expected
open_literal n (drafted v names) = plain_of v (open_type n v)
open_literal n (pointed s) = plain_of (utf8 s) (open_type (not n) (utf8 s))

-- what is left of the names behind that one, if it is the first
abbrev pub behind_name : Name → List Name → Option (List Name)
behind_name a [] = None
behind_name a (b ∷ names) = if bytes_eq b a then Some names else None

-- what is left of the names behind those of the value's structs, if these are the type's, outer ones first
abbrev mutual
  pub names_left : Datum → LogicalType → List Name → Option (List Name)
  names_left (list_of vs) (ty (list t) n) names = items_left vs t names
  names_left (list_of vs) (ty (fixed t k) n) names = items_left vs t names
  names_left (list_of vs) _ names = None
  names_left (struct_of vs) (ty (struct fs) n) names = row_left vs fs names
  names_left (struct_of vs) _ names = None
  names_left _ t names = Some names

  pub items_left : Data → LogicalType → List Name → Option (List Name)
  items_left no_datum t names = Some names
  items_left (datum v vs) t names = option_and_then (items_left vs t) (names_left v t names)

  pub row_left : Data → Fields → List Name → Option (List Name)
  row_left no_datum no_field names = Some names
  row_left (datum v vs) (field a t fs) names = option_and_then (row_left vs fs) (option_and_then (names_left v t) (behind_name a names))
  row_left _ _ names = None

-- the scalar where no name is left
abbrev pub typed_of : LogicalType → Option (List Name) → Option Datum → Option Constant
typed_of t (Some []) (Some v) = fitting t v
typed_of t _ _ = None

-- the value as a scalar of the type that follows it, if its structs have the type's names and it is one of the type: of a
-- decimal, a floating-point number, a day or an instant its text is, and of the first two a number with a point
abbrev pub typed_literal : Drafted → LogicalType → Option Constant
typed_literal (drafted v names) t = typed_of t (names_left v t names) (typed_value v t)
typed_literal (pointed s) t = point_literal s t
