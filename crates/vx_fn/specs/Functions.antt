-- The functions, and the type that each gives over its children's types.
use Rattle.std.specs.Prelude.{ℕ, ◌+◌, ◌*◌, Bool, true, false, ◌&&◌, ◌||◌, ◌==◌, not, List, [], ◌∷◌, length, Option, Some, None, Result, Ok, Err, if◌then◌else◌, ok_or, option_map, codes}
use Rattle.std.specs.List.{list_all}
use Rattle.std.specs.Result.{result_map_both}
use Rattle.vx_dtype.specs.declared.dtype.PType.TheVariants.{I64}
use Rattle.vx_dtype.specs.declared.error.VortexError.{VortexError}
use Rattle.vx_dtype.specs.declared.error.VortexError.TheVariants.{ArityMismatch, NotAStruct, NoSuchField, BaseTypesDiffer, NotBool, NotComparable, NotNumeric, NotText, NoPairs}
use Rattle.vx_floats.specs.declared.arithmetic.Arithmetic.{Arithmetic}
use Rattle.vx_floats.specs.declared.arithmetic.Arithmetic.TheVariants.{Sum, Difference, Product}
use Rattle.vx_fn.specs.declared.options.FieldSelection.{FieldSelection}
use Rattle.vx_value.specs.Returns.{known_or}
use Rattle.vx_value.specs.Types.{Name, truth, number, floating, decimals, text, LogicalType, ty, atomic, list, struct, Fields, Datum, is_nullable, with_nullability}
use Rattle.vx_value.specs.Fits.{Fits}
use Rattle.vx_value.specs.Joins.{same_base, union, union_of}
pub use Rattle.vx_fn.specs.Selections.{selection_names, is_inclusion}
use Rattle.vx_fn.specs.Selections.{kept_names}
use Rattle.vx_value.specs.Fields.{field_names, field_type, project, first_unknown, fields_named}

-- how two operands are compared
pub data Comparison : Type 0 where
  equal : Comparison
  not_equal : Comparison
  greater : Comparison
  greater_or_equal : Comparison
  less : Comparison
  less_or_equal : Comparison

-- what a binary function does with its operands
pub data Operation : Type 0 where
  compares : Comparison → Operation
  and_also : Operation
  or_else : Operation
  computes : Arithmetic → Operation

-- a function with its options
pub data Function : Type 0 where
  case_when : (pairs : ℕ) → (has_else : Bool) → Function
  get_item : Name → Function
  literal : LogicalType → Datum → Function
  pack : List Name → (nullable : Bool) → Function
  select : FieldSelection → Function
  fill_null : Function
  zip : Function
  binary : Operation → Function
  logical_not : Function
  between : (lower_strict upper_strict : Bool) → Function
  like : (negated case_insensitive : Bool) → Function
  is_null : Function
  is_not_null : Function
  mask : Function
  cast : LogicalType → Function
  starts_with : Function
  byte_length : Function
  list_contains : Function

-- the comparison for exchanged operands
abbrev pub mirrored : Comparison → Comparison
mirrored greater = less
mirrored greater_or_equal = less_or_equal
mirrored less = greater
mirrored less_or_equal = greater_or_equal
mirrored equal = equal
mirrored not_equal = not_equal

-- whether the arithmetic gives the same over exchanged operands
abbrev pub is_symmetric : Arithmetic → Bool
is_symmetric Sum = true
is_symmetric Product = true
is_symmetric _ = false

-- the operation for exchanged operands, if there is one
abbrev pub swapped : Operation → Option Operation
swapped (compares c) = Some (compares (mirrored c))
swapped and_also = Some and_also
swapped or_else = Some or_else
swapped (computes a) = if is_symmetric a then Some (computes a) else None

-- a literal's value is one of its type
abbrev pub HasFittingLiteral : Function → Type 0
HasFittingLiteral (literal t v) = Fits v t
HasFittingLiteral _ = Unit {0}

-- ---- the type of a node, or the first refusal
abbrev pub Typing : Type 0
Typing = Result LogicalType VortexError

-- ---- a row of the table: how many children, then the checks in their order, then the type

-- the row of a function without children
abbrev pub of_none : Typing → List LogicalType → Typing
of_none t [] = t
of_none t (u ∷ us) = Err (ArityMismatch 0 (length (u ∷ us)))

-- the row of a function of one child
abbrev pub of_one : (LogicalType → Typing) → List LogicalType → Typing
of_one row (t ∷ []) = row t
of_one row ts = Err (ArityMismatch 1 (length ts))

-- the row of a function of two children
abbrev pub of_two : (LogicalType → LogicalType → Typing) → List LogicalType → Typing
of_two row (t ∷ u ∷ []) = row t u
of_two row ts = Err (ArityMismatch 2 (length ts))

-- the row of a function of three children
abbrev pub of_three : (LogicalType → LogicalType → LogicalType → Typing) → List LogicalType → Typing
of_three row (t ∷ u ∷ w ∷ []) = row t u w
of_three row ts = Err (ArityMismatch 3 (length ts))

-- the row of a function of that many children
abbrev pub of_many : ℕ → (List LogicalType → Typing) → List LogicalType → Typing
of_many n row ts = if length ts == n then row ts else Err (ArityMismatch n (length ts))

-- a check: what comes next where it passes, else its refusal
abbrev pub needs : Bool → VortexError → Typing → Typing
needs true refusal t = t
needs false refusal t = Err refusal

-- whether the type is Bool
abbrev pub is_truth : LogicalType → Bool
is_truth (ty (atomic truth) n) = true
is_truth _ = false

-- whether the type is Utf8
abbrev pub is_text : LogicalType → Bool
is_text (ty (atomic text) n) = true
is_text _ = false

-- whether the type's values are numbers: Primitive, Float or Decimal
abbrev pub is_number : LogicalType → Bool
is_number (ty (atomic (number p)) n) = true
is_number (ty (atomic (floating f)) n) = true
is_number (ty (atomic (decimals p s)) n) = true
is_number _ = false

-- whether the arithmetic adds or subtracts
abbrev pub is_additive : Arithmetic → Bool
is_additive Sum = true
is_additive Difference = true
is_additive _ = false

-- whether the arithmetic takes values of the type: numbers, but decimals where it adds or subtracts alone
abbrev pub is_number_for : Arithmetic → LogicalType → Bool
is_number_for a (ty (atomic (number p)) n) = true
is_number_for a (ty (atomic (floating f)) n) = true
is_number_for a (ty (atomic (decimals p s)) n) = is_additive a
is_number_for a _ = false

-- whether the type is neither a list's nor a struct's
abbrev pub is_atomic : LogicalType → Bool
is_atomic (ty (atomic p) n) = true
is_atomic _ = false

-- Bool, nullable or not
abbrev pub truth_type : Bool → LogicalType
truth_type n = ty (atomic truth) n

-- the type of a CASE whose values have that union: nullable where there is no ELSE
abbrev pub with_else : Bool → LogicalType → LogicalType
with_else true w = w
with_else false w = with_nullability true w

-- the type of a CASE of these values, if they have a union
abbrev pub case_union : Bool → List LogicalType → Typing
case_union has_else values = ok_or (option_map (with_else has_else) (union_of values)) BaseTypesDiffer

-- of the children of a CASE, the conditions
abbrev pub conditions : {A : Type 0} → List A → List A
conditions [] = []
conditions (e ∷ []) = []
conditions (c ∷ v ∷ rest) = c ∷ conditions rest

-- of the children of a CASE, the values, with the ELSE value last
abbrev pub branches : {A : Type 0} → List A → List A
branches [] = []
branches (e ∷ []) = e ∷ []
branches (c ∷ v ∷ rest) = v ∷ branches rest

-- the row of CASE: pairs, truth types as conditions, and a union of the values
abbrev pub case_type : ℕ → Bool → List LogicalType → Typing
case_type pairs has_else ts =
    needs (not (pairs == 0)) NoPairs
    (needs (list_all is_truth (conditions ts)) NotBool
    (case_union has_else (branches ts)))

-- two children a pair, and one more with ELSE
abbrev pub case_children : ℕ → Bool → ℕ
case_children pairs has_else = if has_else then 2 * pairs + 1 else 2 * pairs

-- how many children the function has
abbrev pub arity_of : Function → ℕ
arity_of (case_when pairs has_else) = case_children pairs has_else
arity_of (literal t v) = 0
arity_of (pack names n) = length names
arity_of fill_null = 2
arity_of (binary op) = 2
arity_of (like negated case_insensitive) = 2
arity_of mask = 2
arity_of starts_with = 2
arity_of list_contains = 2
arity_of zip = 3
arity_of (between ls us) = 3
arity_of _ = 1

-- the type of a field that was found, nullable also where its struct is
abbrev pub found : Name → Bool → Option LogicalType → Typing
found a n None = Err (NoSuchField a)
found a n (Some (ty s m)) = Ok (ty s (m || n))

-- the row of a field of a struct
abbrev pub item_type : Name → LogicalType → Typing
item_type a (ty (struct fs) n) = found a n (field_type a fs)
item_type a _ = Err NotAStruct

-- the names of the struct's fields that a selection keeps
abbrev pub included : FieldSelection → Fields → List Name
included selection fs = kept_names selection (field_names fs)

-- the fields of a selection, or the first of its names without a field
abbrev pub selected : FieldSelection → Fields → Result Fields VortexError
selected selection fs = known_or (first_unknown (selection_names selection) fs) (Ok (project (included selection fs) fs))

-- the row of a selection of fields
abbrev pub select_type : FieldSelection → LogicalType → Typing
select_type selection (ty (struct fs) n) = result_map_both (λ kept. ty (struct kept) n) (λ refusal. refusal) (selected selection fs)
select_type selection _ = Err NotAStruct

-- the row of a comparison
abbrev pub comparison_type : LogicalType → LogicalType → Typing
comparison_type t u =
    needs (is_atomic t && is_atomic u) NotComparable
    (needs (same_base t u) BaseTypesDiffer (Ok (truth_type (is_nullable t || is_nullable u))))

-- the row of And and Or
abbrev pub logic_type : LogicalType → LogicalType → Typing
logic_type t u = needs (is_truth t && is_truth u) NotBool (Ok (truth_type (is_nullable t || is_nullable u)))

-- the row of arithmetic
abbrev pub arithmetic_type : Arithmetic → LogicalType → LogicalType → Typing
arithmetic_type a t u =
    needs (is_number_for a t && is_number_for a u) NotNumeric
    (needs (same_base t u) BaseTypesDiffer (Ok (with_nullability (is_nullable t || is_nullable u) t)))

-- the row of each binary function
abbrev pub binary_type : Operation → LogicalType → LogicalType → Typing
binary_type (compares c) = comparison_type
binary_type (computes a) = arithmetic_type a
binary_type _ = logic_type

-- the row of a fill
abbrev pub fill_type : LogicalType → LogicalType → Typing
fill_type t u = needs (same_base t u) BaseTypesDiffer (Ok (with_nullability (is_nullable u) t))

-- the row of a choice by a mask
abbrev pub zip_type : LogicalType → LogicalType → LogicalType → Typing
zip_type t u m = needs (is_truth m) NotBool (ok_or (union t u) BaseTypesDiffer)

-- the row of a negation
abbrev pub not_type : LogicalType → Typing
not_type t = needs (is_truth t) NotBool (Ok t)

-- the row of a test by two bounds
abbrev pub between_type : LogicalType → LogicalType → LogicalType → Typing
between_type t l u =
    needs (is_atomic t && is_atomic l && is_atomic u) NotComparable
    (needs (same_base t l && same_base t u) BaseTypesDiffer (Ok (truth_type (is_nullable t || is_nullable l || is_nullable u))))

-- the row of a match of a pattern, and of a test of a beginning
abbrev pub like_type : LogicalType → LogicalType → Typing
like_type t p = needs (is_text t && is_text p) NotText (Ok (truth_type (is_nullable t || is_nullable p)))

-- the row of a length
abbrev pub length_type : LogicalType → Typing
length_type t = needs (is_text t) NotText (Ok (ty (atomic (number I64)) (is_nullable t)))

-- whether the first is a type of lists of the second's values, but for nullability
abbrev pub is_list_of : LogicalType → LogicalType → Bool
is_list_of (ty (list e) n) u = same_base e u
is_list_of _ u = false

-- whether a list of the type may be null, or an element of it
abbrev pub may_hold_null : LogicalType → Bool
may_hold_null (ty (list e) n) = n || is_nullable e
may_hold_null _ = false

-- the row of a search in a list
abbrev pub contains_type : LogicalType → LogicalType → Typing
contains_type t u =
    needs (is_atomic u) NotComparable
    (needs (is_list_of t u) BaseTypesDiffer (Ok (truth_type (may_hold_null t || is_nullable u))))

-- the row of a mask
abbrev pub mask_type : LogicalType → LogicalType → Typing
mask_type t m = needs (is_truth m && not (is_nullable m)) NotBool (Ok (with_nullability true t))

-- the row of a cast
abbrev pub cast_type : LogicalType → LogicalType → Typing
cast_type u t = needs (same_base t u) BaseTypesDiffer (Ok u)

-- the row of a struct that is made
abbrev pub pack_type : List Name → Bool → List LogicalType → Typing
pack_type names n ts = Ok (ty (struct (fields_named names ts)) n)

-- what the function gives over its children's types: a type, or its first refusal
abbrev pub fn_type : Function → List LogicalType → Typing
fn_type (case_when pairs has_else) = of_many (case_children pairs has_else) (case_type pairs has_else)
fn_type (get_item a) = of_one (item_type a)
fn_type (literal t v) = of_none (Ok t)
fn_type (pack names n) = of_many (length names) (pack_type names n)
fn_type (select selection) = of_one (select_type selection)
fn_type fill_null = of_two fill_type
fn_type zip = of_three zip_type
fn_type (binary op) = of_two (binary_type op)
fn_type logical_not = of_one not_type
fn_type (between lower_strict upper_strict) = of_three between_type
fn_type (like negated case_insensitive) = of_two like_type
fn_type is_null = of_one (λ t. Ok (truth_type false))
fn_type is_not_null = of_one (λ t. Ok (truth_type false))
fn_type mask = of_two mask_type
fn_type (cast u) = of_one (cast_type u)
fn_type starts_with = of_two like_type
fn_type byte_length = of_one length_type
fn_type list_contains = of_two contains_type

-- the name of the function
abbrev pub id_of : Function → List ℕ
id_of (case_when pairs has_else) = codes "vortex.case_when"
id_of (get_item a) = codes "vortex.get_item"
id_of (literal t v) = codes "vortex.literal"
id_of (pack names n) = codes "vortex.pack"
id_of (select selection) = codes "vortex.select"
id_of fill_null = codes "vortex.fill_null"
id_of zip = codes "vortex.zip"
id_of (binary op) = codes "vortex.binary"
id_of logical_not = codes "vortex.not"
id_of (between lower_strict upper_strict) = codes "vortex.between"
id_of (like negated case_insensitive) = codes "vortex.like"
id_of is_null = codes "vortex.is_null"
id_of is_not_null = codes "vortex.is_not_null"
id_of mask = codes "vortex.mask"
id_of (cast t) = codes "vortex.cast"
id_of starts_with = codes "vortex.starts_with"
id_of byte_length = codes "vortex.byte_length"
id_of list_contains = codes "vortex.list_contains"
