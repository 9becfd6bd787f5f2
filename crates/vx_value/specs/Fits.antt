-- Which values are of a type.
use Rattle.std.specs.Prelude.{ℕ, ◌+◌, ◌^◌, Bool, true, false, ◌&&◌, ◌==◌, List, ℤ, pos, negsuc, IsTrue, nat_lt, unsigned_abs}
use Rattle.std.specs.List.{list_all}
use Rattle.vx_dtype.specs.Lists.{Forall2}
use Rattle.vx_dtype.specs.declared.dtype.PType.{PType}
use Rattle.vx_dtype.specs.declared.dtype.PType.TheVariants.{I32, I64}
use Rattle.vx_floats.specs.Floats.{format_of, is_canonical}
use Rattle.vx_value.specs.Types.{bits, is_signed, same_float_type, truth, number, floating, decimals, date, timestamp, text, octets, LogicalType, ty, atomic, list, fixed, struct, Fields, no_field, field, Datum, null, bool, int, float, utf8, bytes, list_of, struct_of, Data, no_datum, datum}

-- whether the number lies in the range of the number type
abbrev pub fits_ptype : ℤ → PType → Bool
fits_ptype (pos n) p = nat_lt n (2 ^ bits p)
fits_ptype (negsuc n) p = is_signed p && nat_lt n (2 ^ bits p)

-- whether the number of units has at most so many digits
abbrev pub fits_digits : ℤ → ℕ → Bool
fits_digits i precision = nat_lt (unsigned_abs i) (10 ^ precision)

-- how many values there are
abbrev pub count : Data → ℕ
count no_datum = 0
count (datum v vs) = count vs + 1

-- whether the value is one of the type: null of every nullable type, else by the type's shape
abbrev mutual
  pub fits : Datum → LogicalType → Bool
  fits null (ty s n) = n
  fits (bool b) (ty (atomic truth) n) = true
  fits (int i) (ty (atomic (number p)) n) = fits_ptype i p
  fits (float x) (ty (atomic (floating f)) n) = same_float_type (format_of x) f && is_canonical x
  fits (int i) (ty (atomic (decimals p s)) n) = fits_digits i p
  fits (int i) (ty (atomic date) n) = fits_ptype i I32
  fits (int i) (ty (atomic (timestamp u z)) n) = fits_ptype i I64
  fits (utf8 t) (ty (atomic text) n) = true
  fits (bytes t) (ty (atomic octets) n) = true
  fits (list_of vs) (ty (list t) n) = each_fits vs t
  fits (list_of vs) (ty (fixed t k) n) = (count vs == k) && each_fits vs t
  fits (struct_of vs) (ty (struct fs) n) = fields_fit vs fs
  fits _ _ = false

  -- each of the values is one of the element type
  pub each_fits : Data → LogicalType → Bool
  each_fits no_datum t = true
  each_fits (datum v vs) t = fits v t && each_fits vs t

  -- as many values as fields, each of its field's type
  pub fields_fit : Data → Fields → Bool
  fields_fit no_datum no_field = true
  fields_fit (datum v vs) (field a t fs) = fits v t && fields_fit vs fs
  fields_fit _ _ = false

-- the value is one of the type
abbrev pub Fits : Datum → LogicalType → Type 0
Fits v t = IsTrue (fits v t)

-- each row is a value of the type
abbrev pub IsBatch : LogicalType → List Datum → Type 0
IsBatch s batch = IsTrue (list_all (λ v. fits v s) batch)

-- each value is one of the type beside it
abbrev pub EachFits : List Datum → List LogicalType → Type 0
EachFits = Forall2 Fits
