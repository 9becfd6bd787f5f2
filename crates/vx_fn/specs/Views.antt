-- What a `ScalarFnRef` stands for.
use Rattle.std.specs.Prelude.{Bool, true, false}
use Rattle.vx_value.specs.Views.{admits_null, type_of}
use Rattle.vx_floats.specs.declared.arithmetic.Arithmetic.TheVariants.{Sum, Difference, Product, Quotient, Remainder}
use Rattle.vx_fn.specs.declared.options.Operator.{Operator}
use Rattle.vx_fn.specs.declared.options.Operator.TheVariants.{Eq, NotEq, Gt, Gte, Lt, Lte, And, Or, Add, Sub, Mul, Div, Rem}
use Rattle.vx_fn.specs.declared.options.StrictComparison.{StrictComparison}
use Rattle.vx_fn.specs.declared.options.StrictComparison.TheVariants.{Strict, NonStrict}
use Rattle.vx_fn.specs.declared.function.ScalarFnRef.{ScalarFnRef}
use Rattle.vx_fn.specs.declared.function.ScalarFnRef.TheVariants.{CaseWhen, GetItem, Literal, Pack, Select, FillNull, Zip, Binary, Not, Between, Like, IsNull, IsNotNull, Mask, Cast, StartsWith, ByteLength, ListContains}
use Rattle.vx_fn.specs.Functions.{Function, case_when, get_item, literal, pack, select, fill_null, zip, binary, logical_not, between, like, is_null, is_not_null, mask, cast, starts_with, byte_length, list_contains, Operation, compares, and_also, or_else, computes, equal, not_equal, greater, greater_or_equal, less, less_or_equal}

-- the operation of an operator
abbrev pub operation_of : Operator → Operation
operation_of Eq = compares equal
operation_of NotEq = compares not_equal
operation_of Gt = compares greater
operation_of Gte = compares greater_or_equal
operation_of Lt = compares less
operation_of Lte = compares less_or_equal
operation_of And = and_also
operation_of Or = or_else
operation_of Add = computes Sum
operation_of Sub = computes Difference
operation_of Mul = computes Product
operation_of Div = computes Quotient
operation_of Rem = computes Remainder

-- whether the bound itself is left out
abbrev pub is_strict : StrictComparison → Bool
is_strict Strict = true
is_strict NonStrict = false

-- the function that a `ScalarFnRef` stands for
abbrev pub function_of : ScalarFnRef → Function
function_of (CaseWhen o) = case_when o.num_when_then_pairs o.has_else
function_of (GetItem name) = get_item name
function_of (Literal s) = literal s.type s.value
function_of (Pack o) = pack o.names (admits_null o.nullability)
function_of (Select selection) = select selection
function_of (FillNull o) = fill_null
function_of (Zip o) = zip
function_of (Binary operator) = binary (operation_of operator)
function_of (Not o) = logical_not
function_of (Between o) = between (is_strict o.lower_strict) (is_strict o.upper_strict)
function_of (Like o) = like o.negated o.case_insensitive
function_of (IsNull o) = is_null
function_of (IsNotNull o) = is_not_null
function_of (Mask o) = mask
function_of (Cast t) = cast (type_of t)
function_of (StartsWith o) = starts_with
function_of (ByteLength o) = byte_length
function_of (ListContains o) = list_contains
