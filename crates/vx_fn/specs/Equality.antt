-- When two functions are equal, as a test that decides `≡`, and what a function feeds to a hasher.
use Rattle.std.specs.Prelude.{ℕ, Bool, true, false, ◌&&◌, ◌==◌, ◌++◌, List, []}
use Rattle.std.specs.Bool.{beq}
use Rattle.std.specs.Cmp.Lexicographic.{pointwise}
use Rattle.std.specs.Hash.{HashWrites}
use Rattle.std.specs.Hash as fed
use Rattle.std.specs.Str.{bytes_eq}
use Rattle.vx_floats.specs.declared.arithmetic.Arithmetic.TheVariants.{Sum, Difference, Product, Quotient, Remainder}
use Rattle.vx_value.specs.Types.{Name}
use Rattle.vx_value.specs.Equality.{equal_type, equal_datum}
use Rattle.vx_value.specs.Hashes.{type_fed, datum_fed}
use Rattle.vx_fn.specs.declared.options.FieldSelection.{FieldSelection}
use Rattle.vx_fn.specs.declared.options.FieldSelection.TheVariants.{Include, Exclude}
use Rattle.vx_fn.specs.Functions.{equal, not_equal, greater, greater_or_equal, less, less_or_equal, Operation, compares, and_also, or_else, computes, Function, case_when, get_item, literal, pack, select, fill_null, zip, binary, logical_not, between, like, is_null, is_not_null, mask, cast, starts_with, byte_length, list_contains}

-- the operation's place among the thirteen
abbrev pub operation_index : Operation → ℕ
operation_index (compares equal) = 0
operation_index (compares not_equal) = 1
operation_index (compares greater) = 2
operation_index (compares greater_or_equal) = 3
operation_index (compares less) = 4
operation_index (compares less_or_equal) = 5
operation_index and_also = 6
operation_index or_else = 7
operation_index (computes Sum) = 8
operation_index (computes Difference) = 9
operation_index (computes Product) = 10
operation_index (computes Quotient) = 11
operation_index (computes Remainder) = 12

-- whether two lists have the same names in the same order
abbrev pub equal_names : List Name → List Name → Bool
equal_names = pointwise bytes_eq

-- whether two selections keep or leave out the same names
abbrev pub equal_selection : FieldSelection → FieldSelection → Bool
equal_selection (Include ns) (Include ms) = equal_names ns ms
equal_selection (Exclude ns) (Exclude ms) = equal_names ns ms
equal_selection _ _ = false

-- whether two functions are the same, with the same options
abbrev pub equal_function : Function → Function → Bool
equal_function (case_when k e) (case_when l f) = k == l && beq e f
equal_function (get_item a) (get_item b) = bytes_eq a b
equal_function (literal t v) (literal u w) = equal_type t u && equal_datum v w
equal_function (pack ns n) (pack ms m) = equal_names ns ms && beq n m
equal_function (select s) (select r) = equal_selection s r
equal_function fill_null fill_null = true
equal_function zip zip = true
equal_function (binary c) (binary d) = operation_index c == operation_index d
equal_function logical_not logical_not = true
equal_function (between k l) (between m n) = beq k m && beq l n
equal_function (like k l) (like m n) = beq k m && beq l n
equal_function is_null is_null = true
equal_function is_not_null is_not_null = true
equal_function mask mask = true
equal_function (cast t) (cast u) = equal_type t u
equal_function starts_with starts_with = true
equal_function byte_length byte_length = true
equal_function list_contains list_contains = true
equal_function _ _ = false

-- what a selection feeds to a hasher
abbrev pub selection_fed : FieldSelection → HashWrites
selection_fed (Include names) = fed.u8 0 ++ fed.slice fed.str names
selection_fed (Exclude names) = fed.u8 1 ++ fed.slice fed.str names

-- the function's place among them all
abbrev pub function_index : Function → ℕ
function_index (case_when k e) = 0
function_index (get_item a) = 1
function_index (literal t v) = 2
function_index (pack names n) = 3
function_index (select s) = 4
function_index fill_null = 5
function_index zip = 6
function_index (binary c) = 7
function_index logical_not = 8
function_index (between k l) = 9
function_index (like k l) = 10
function_index is_null = 11
function_index is_not_null = 12
function_index mask = 13
function_index (cast t) = 14
function_index starts_with = 15
function_index byte_length = 16
function_index list_contains = 17

-- what a function's options feed to a hasher
abbrev pub options_fed : Function → HashWrites
options_fed (case_when k e) = fed.u32 k ++ fed.bool e
options_fed (get_item a) = fed.str a
options_fed (literal t v) = type_fed t ++ datum_fed v
options_fed (pack names n) = fed.slice fed.str names ++ fed.bool n
options_fed (select s) = selection_fed s
options_fed (binary c) = fed.u8 (operation_index c)
options_fed (between k l) = fed.bool k ++ fed.bool l
options_fed (like k l) = fed.bool k ++ fed.bool l
options_fed (cast t) = type_fed t
options_fed _ = []

-- what a function feeds to a hasher: its place, and its options
abbrev pub function_fed : Function → HashWrites
function_fed f = fed.u8 (function_index f) ++ options_fed f
