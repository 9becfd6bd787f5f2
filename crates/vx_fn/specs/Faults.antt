-- Which node faults over its children's rows, and in which row.
use Rattle.std.specs.Prelude.{ℕ, pos, Bool, true, false, ◌&&◌, ◌||◌, not, List, [], ◌∷◌, Option, Some, None, if◌then◌else◌, map, position, get_or}
use Rattle.std.specs.Option.{option_map}
use Rattle.std.specs.List.{list_any}
use Rattle.std.specs.Ordering.{int_eq, is_eq}
use Rattle.vx_dtype.specs.declared.error.VortexError.{VortexError}
use Rattle.vx_dtype.specs.declared.error.VortexError.TheVariants.{AddOverflow, CastNull, BadFill, DivisionByZero}
use Rattle.vx_floats.specs.declared.arithmetic.Arithmetic.{Arithmetic}
use Rattle.vx_floats.specs.declared.arithmetic.Arithmetic.TheVariants.{Quotient, Remainder}
use Rattle.vx_value.specs.Types.{LogicalType, ty, atomic, number, floating, decimals, Datum, int, null, is_null_datum}
use Rattle.vx_value.specs.Fits.{fits, fits_digits, fits_ptype}
use Rattle.vx_fn.specs.Functions.{Function, binary, computes, cast, fill_null, is_atomic}
use Rattle.vx_fn.specs.Values.{order, computed, at_two}

-- whether a result lies outside the type of the first operand
abbrev pub is_outside : List LogicalType → Datum → Bool
is_outside (ty (atomic (number p)) n ∷ ts) (int i) = not (fits_ptype i p)
is_outside (ty (atomic (floating f)) n ∷ ts) (int i) = true
is_outside (ty (atomic (decimals p s)) n ∷ ts) (int i) = not (fits_digits i p)
is_outside _ _ = false

-- whether the arithmetic divides
abbrev pub is_division : Arithmetic → Bool
is_division Quotient = true
is_division Remainder = true
is_division _ = false

-- whether the row is of two whole numbers, of which the second is zero
abbrev pub ends_in_zero : List Datum → Bool
ends_in_zero (int i ∷ int j ∷ []) = int_eq j (pos 0)
ends_in_zero _ = false

-- whether a whole number is divided by zero
abbrev pub divides_by_zero : Arithmetic → List Datum → Bool
divides_by_zero a row = is_division a && ends_in_zero row

-- whether the row has a fault: a division by zero, or a result outside the type
abbrev pub has_fault : Arithmetic → List LogicalType → List Datum → Bool
has_fault a ts row = divides_by_zero a row || is_outside ts (at_two (computed a) row)

-- the fault of such a row, which has that number
abbrev pub row_fault : Arithmetic → List Datum → ℕ → VortexError
row_fault a row n = if divides_by_zero a row then DivisionByZero n else AddOverflow n

-- the fault of the first row that has one
abbrev pub arithmetic_fault : Arithmetic → List LogicalType → List (List Datum) → Option VortexError
arithmetic_fault a ts rows = option_map (λ n. row_fault a (get_or rows n []) n) (position (has_fault a ts) rows)

-- whether the row's value is none of the type
abbrev pub misfits : LogicalType → List Datum → Bool
misfits t (v ∷ []) = not (fits v t)
misfits t _ = false

-- the fill of a row of an input and a fill
abbrev pub fill_of : List Datum → Datum
fill_of (v ∷ w ∷ []) = w
fill_of _ = null

-- whether two values of one type differ
abbrev pub differs : Datum → Datum → Bool
differs v w = not (is_eq (order v w))

-- whether some value differs from the first
abbrev pub some_differ : List Datum → Bool
some_differ [] = false
some_differ (v ∷ vs) = list_any (differs v) vs

-- whether the input's type is neither a list's nor a struct's
abbrev pub is_fillable : List LogicalType → Bool
is_fillable (t ∷ ts) = is_atomic t
is_fillable [] = false

-- whether the input can't be filled, or the fills are null somewhere or not one value
abbrev pub is_bad_fill : List LogicalType → List Datum → Bool
is_bad_fill ts fills = not (is_fillable ts) || list_any is_null_datum fills || some_differ fills

-- the fault where the test holds
abbrev pub when : Bool → VortexError → Option VortexError
when b fault = if b then Some fault else None

-- the fault of a node over the rows of its children's values
abbrev pub node_fault : Function → List LogicalType → List (List Datum) → Option VortexError
node_fault (binary (computes a)) ts rows = arithmetic_fault a ts rows
node_fault (cast t) ts rows = option_map CastNull (position (misfits t) rows)
node_fault fill_null ts rows = when (is_bad_fill ts (map fill_of rows)) BadFill
node_fault _ ts rows = None
