-- Why a node has no SQL text.
use Rattle.std.specs.Prelude.{ℕ, ℤ, pos, Bool, false, not, ◌==◌, ◌&&◌, ◌||◌, List, [], ◌∷◌, Option, Some, None, length, if◌then◌else◌, nat_lt}
use Rattle.std.specs.Int.{int_div_euclid}
use Rattle.std.specs.List.{list_any, count_by}
use Rattle.std.specs.Option.{option_or, is_some}
use Rattle.std.specs.Str.{bytes_eq}
use Rattle.vx_floats.specs.Texts.{has_value_text}
use Rattle.vx_literals.specs.Days.{civil_at}
use Rattle.vx_literals.specs.Instants.{units_a_day}
use Rattle.vx_source_types.specs.Names.{same_word}
use Rattle.vx_value.specs.Columns.{Constant}
use Rattle.vx_value.specs.Types.{Name, number, floating, date, timestamp, LogicalType, ty, atomic, Datum, null, bool, int, float, utf8, bytes, list_of, struct_of, Data, no_datum, datum}
use Rattle.vx_floats.specs.declared.arithmetic.Arithmetic.{Arithmetic}
use Rattle.vx_fn.specs.Functions.{Function, case_when, get_item, literal, pack, select, fill_null, zip, Operation, compares, and_also, or_else, computes, binary, logical_not, between, like, is_null, is_not_null, mask, cast, starts_with, byte_length, list_contains, arity_of, is_atomic}
use Rattle.vx_tree.specs.Nodes.{bound_at, bound_count_of}
use Rattle.vx_tree.specs.Trees.{BoundTrees}
use Rattle.vx_sql.specs.declared.dialect.Dialect.{Dialect}
use Rattle.vx_sql.specs.declared.dialect.Dialect.TheVariants.{Postgres, Sqlite, DuckDb, Spark, ClickHouse}
use Rattle.vx_sql.specs.declared.unsupported.Reason.{Reason}
use Rattle.vx_sql.specs.declared.unsupported.Reason.TheVariants.{ChildCount, UnknownType, FloatOrder, FloatBits, UnknownFunction, NestedLiteral, PatternNotLiteral, FillNotLiteral, FarDay, EmptyName, LongName, AmbiguousName, Nul, Backslash, Keyword}
use Rattle.vx_sql.specs.Calculations.{check_of}
use Rattle.vx_sql.specs.Children.{passes, has_atomic_first, names_first, literal_in, is_value}
use Rattle.vx_sql.specs.Dialects.{has_floats, has_type, makes_structs}
use Rattle.vx_sql.specs.Quotes.{is_escaped}
use Rattle.vx_sql.specs.Words.{is_misread}
use Rattle.vx_sql.specs.Lists.{item_type, items_in, no_zeros, literal_first}
use Rattle.vx_sql.specs.Zeros.{is_float, no_zero_at, mixes_zeros, mixes_zeros_between}

-- the reason where the test holds
abbrev pub because : Bool → Reason → Option Reason
because b r = if b then Some r else None

-- ---- names

-- whether a NUL stands in the text
abbrev pub has_nul : List ℕ → Bool
has_nul s = list_any (λ b. b == 0) s

-- whether the engine cuts the name: PostgreSQL keeps 63 bytes
abbrev pub is_cut : Dialect → Name → Bool
is_cut Postgres a = nat_lt 63 (length a)
is_cut Sqlite a = false
is_cut DuckDb a = false
is_cut Spark a = false
is_cut ClickHouse a = false

-- whether the engine takes two names for one: all but PostgreSQL and ClickHouse ignore the case of ASCII letters, between quotes too
abbrev pub same_name : Dialect → Name → Name → Bool
same_name Postgres a b = bytes_eq a b
same_name Sqlite a b = same_word a b
same_name DuckDb a b = same_word a b
same_name Spark a b = same_word a b
same_name ClickHouse a b = bytes_eq a b

-- why no such name can be written
abbrev pub spelling_reason : Dialect → Name → Option Reason
spelling_reason d a = option_or (because (length a == 0) EmptyName) (option_or (because (has_nul a) Nul) (option_or (because (is_cut d a) LongName) (option_or (because (is_escaped d a) Backslash) (because (is_misread d a) Keyword))))

-- why the name isn't that of one of the columns or fields alone
abbrev pub name_reason : Dialect → List Name → Name → Option Reason
name_reason d names a = option_or (spelling_reason d a) (because (nat_lt 1 (count_by (same_name d a) names)) AmbiguousName)

-- the first reason of one of these names among all
abbrev pub names_reason : Dialect → List Name → List Name → Option Reason
names_reason d all [] = None
names_reason d all (a ∷ names) = option_or (name_reason d all a) (names_reason d all names)

-- ---- functions

-- a day that is written lies in the years 1 to 9999, and so does that of an instant
abbrev pub number_reason : LogicalType → ℤ → Option Reason
number_reason (ty (atomic date) n) i = because (not (is_some (civil_at i))) FarDay
number_reason (ty (atomic (timestamp u z)) n) i = because (not (is_some (civil_at (int_div_euclid i (pos (units_a_day u)))))) FarDay
number_reason _ i = None

-- a literal is of a type without parts, a floating-point number has a text of its value, and no text has a NUL
abbrev pub value_reason : LogicalType → Datum → Option Reason
value_reason t null = None
value_reason t (bool b) = None
value_reason t (int i) = number_reason t i
value_reason t (float x) = because (not (has_value_text x)) FloatBits
value_reason t (utf8 s) = because (has_nul s) Nul
value_reason t (bytes bs) = None
value_reason t (list_of vs) = None
value_reason t (struct_of vs) = None

abbrev pub literal_reason : LogicalType → Datum → Option Reason
literal_reason t v = if is_atomic t then value_reason t v else Some NestedLiteral

-- a struct that is made has a field, and no two of one name
abbrev pub pack_reason : Dialect → List Name → Option Reason
pack_reason d names = if makes_structs d && not (length names == 0) then names_reason d names names else Some UnknownFunction

-- a fill of other values than one may be none, and so may one of lists and structs
abbrev pub fill_reason : BoundTrees → Option Reason
fill_reason bs = because (not (has_atomic_first bs && passes (λ b. is_value (literal_in b)) (bound_at bs 1))) FillNotLiteral

-- the parts of a pattern, or of a beginning, are known where it is a literal
abbrev pub pattern_reason : BoundTrees → Option Reason
pattern_reason bs = because (not (passes (λ b. is_some (literal_in b)) (bound_at bs 1))) PatternNotLiteral

-- whether the engine has the arithmetic of such values: of whole numbers where it can be made to fail as ours. The engines' results of decimals have more
-- digits than ours, and those of floating-point numbers may fail
abbrev pub has_arithmetic : Dialect → Arithmetic → LogicalType → Bool
has_arithmetic d a (ty (atomic (number p)) n) = is_some (check_of d a p)
has_arithmetic d a _ = false

-- a comparison tells -0 from 0, as no engine does
abbrev pub operation_reason : Dialect → LogicalType → Operation → BoundTrees → Option Reason
operation_reason d t (compares c) bs = because (mixes_zeros bs) FloatOrder
operation_reason d t and_also bs = None
operation_reason d t or_else bs = None
operation_reason d t (computes a) bs = because (not (has_arithmetic d a t)) UnknownFunction

abbrev pub range_reason : BoundTrees → Option Reason
range_reason bs = because (mixes_zeros_between bs) FloatOrder

-- whether the second child may be -0 where an element is 0, or 0 where one is -0
abbrev pub mixes_zeros_in : LogicalType → Data → BoundTrees → Bool
mixes_zeros_in t vs bs = is_float t && not (no_zero_at bs 1 || no_zeros vs)

-- the first reason of one of these literals
abbrev pub items_reason : LogicalType → Data → Option Reason
items_reason t no_datum = None
items_reason t (datum v vs) = option_or (literal_reason t v) (items_reason t vs)

-- why a value isn't looked up among such: -0 is told from 0, as no engine does, and each has a text
abbrev pub list_reason : LogicalType → Data → BoundTrees → Option Reason
list_reason t vs bs = option_or (because (mixes_zeros_in t vs bs) FloatOrder) (items_reason t vs)

-- it is looked up in a literal list, or in a null one
abbrev pub literal_list_reason : Option Constant → BoundTrees → Option Reason
literal_list_reason None bs = Some UnknownFunction
literal_list_reason (Some c) bs = list_reason (item_type c.type) (items_in c.value) bs

abbrev pub membership_reason : BoundTrees → Option Reason
membership_reason bs = literal_list_reason (literal_first bs) bs

abbrev pub function_reason : Dialect → LogicalType → Function → BoundTrees → Option Reason
function_reason d t (get_item a) bs = name_reason d (names_first bs) a
function_reason d t (literal u v) bs = literal_reason u v
function_reason d t (pack names n) bs = pack_reason d names
function_reason d t (select selection) bs = Some UnknownFunction
function_reason d t fill_null bs = fill_reason bs
function_reason d t (like negated ci) bs = pattern_reason bs
function_reason d t (case_when pairs has_else) bs = None
function_reason d t zip bs = None
function_reason d t (binary op) bs = operation_reason d t op bs
function_reason d t logical_not bs = None
function_reason d t (between ls us) bs = range_reason bs
function_reason d t is_null bs = None
function_reason d t is_not_null bs = None
function_reason d t mask bs = None
function_reason d t (cast u) bs = None
function_reason d t starts_with bs = pattern_reason bs
function_reason d t byte_length bs = None
function_reason d t list_contains bs = membership_reason bs

-- why values of the type have no text: the engine orders floating-point numbers otherwise, or has no such values
abbrev pub type_reason : Dialect → LogicalType → Option Reason
type_reason d (ty (atomic (floating f)) n) = because (not (has_floats d)) FloatOrder
type_reason d t = because (not (has_type d t)) UnknownType

-- why a node of that type over these children has no text: for their number, for its type, or for its function
abbrev pub own_reason : Dialect → LogicalType → Function → BoundTrees → Option Reason
own_reason d t f bs =
    if bound_count_of bs == arity_of f then option_or (type_reason d t) (function_reason d t f bs) else Some ChildCount
