-- The worked rows of docs/audit/ROWS.md as theorems about the definitions alone; each is proved by computing it.
use Rattle.std.specs.Prelude.{◌≡◌, ℕ, Bool, true, false, List, [], ◌∷◌, Option, Some, None, Result, Ok, Err, codes, map}
use Rattle.vx_dtype.specs.declared.dtype.PType.TheVariants.{I8, U64}
use Rattle.vx_dtype.specs.declared.error.VortexError.{VortexError}
use Rattle.vx_dtype.specs.declared.error.VortexError.TheVariants.{ArityMismatch, NoSuchField, BaseTypesDiffer, NotBool, NoPairs, AddOverflow, BadFill}
use Rattle.vx_value.specs.Types.{truth, number, LogicalType, ty, atomic, struct, no_field, field, Datum, null, bool, utf8, struct_of, no_datum}
use Rattle.vx_value.specs.Columns.{first_misfit}
use Rattle.vx_fn.specs.declared.options.FieldSelection.TheVariants.{Include, Exclude}
use Rattle.vx_floats.specs.declared.arithmetic.Arithmetic.TheVariants.{Sum}
use Rattle.vx_fn.specs.Functions.{case_when, get_item, pack, select, fill_null, zip, between, like, is_null, compares, and_also, computes, equal, greater, greater_or_equal, less_or_equal}
use Rattle.vx_tree.specs.Examples.{i8, i32, i32_or_null, bool_or_null, utf8_type, struct_type, with_x, row_of, row_of_two, number_of, one, two, three, col, x, lit, lit_i32, lit_text, operated}
use Rattle.vx_tree.specs.Harness.{harness_type}
use Rattle.vx_tree.specs.Binding.{binding}
use Rattle.vx_tree.specs.Faults.{first_fault}
use Rattle.vx_tree.specs.Meaning.{mean}
use Rattle.vx_tree.specs.Texts.{sql}
use Rattle.vx_tree.specs.Trees.{Tree, root, call, no_tree, tree, BoundTree, typed}

-- ---- what a row says

-- over the scope's type the tree has the type, and means these values at the rows
abbrev pub Evaluates : Tree → LogicalType → LogicalType → List Datum → List Datum → Type 0
Evaluates e s t rows values = (typed e s ≡ Ok t) × (map (mean e s) rows ≡ values)

-- over the scope's type the tree has no type, and this is its first refusal
abbrev pub Refuses : Tree → LogicalType → VortexError → Type 0
Refuses e s refusal = typed e s ≡ Err refusal

abbrev fault_when_bound : Result BoundTree VortexError → List Datum → Option VortexError
fault_when_bound (Ok b) rows = first_fault b rows
fault_when_bound (Err refusal) rows = None

-- the first fault of the tree, bound to the scope's type, on the rows
abbrev pub Faults : Tree → LogicalType → List Datum → Option VortexError → Type 0
Faults e s rows fault = fault_when_bound (binding e s) rows ≡ fault

-- ---- 1: null is neither above nor below, and false wins over null

abbrev pub range_of_x : Tree
range_of_x = operated and_also (operated (compares greater_or_equal) x (lit i32_or_null null)) (operated (compares less_or_equal) x (lit_i32 5))

abbrev pub Row1 : Type 0
Row1 = Evaluates range_of_x (with_x i32) bool_or_null (row_of (number_of 10) ∷ row_of (number_of 1) ∷ []) (bool false ∷ null ∷ [])
    × (sql range_of_x ≡ codes "(($.x >= null) and ($.x <= 5i32))")

abbrev pub fused_range_of_x : Tree
fused_range_of_x = call (between false false) (three x (lit i32_or_null null) (lit_i32 5))

-- the same as one range
abbrev pub Row1Fused : Type 0
Row1Fused = Evaluates fused_range_of_x (with_x i32) bool_or_null (row_of (number_of 10) ∷ row_of (number_of 1) ∷ []) (bool false ∷ null ∷ [])
    × (sql fused_range_of_x ≡ codes "(null <= $.x <= 5i32)")

-- ---- 5: a selection of nothing keeps null

abbrev pub nothing_selected : Tree
nothing_selected = call (select (Include [])) (one root)

abbrev pub Row5 : Type 0
Row5 = Evaluates nothing_selected (ty (struct (field (codes "x") i32 no_field)) true) (ty (struct no_field) true)
    (null ∷ row_of (number_of 1) ∷ []) (null ∷ struct_of no_datum ∷ [])
    × (sql nothing_selected ≡ codes "${}")

-- ---- 6: a field of a nullable pack

abbrev pub item_of_pack : Tree
item_of_pack = call (get_item (codes "a")) (one (call (pack (codes "a" ∷ []) true) (one x)))

abbrev pub Row6 : Type 0
Row6 = (typed item_of_pack (with_x i32) ≡ Ok i32_or_null) × (sql item_of_pack ≡ codes "pack(a: $.x)?.a")

-- ---- 7: a CASE that gives 0 for null

abbrev pub zero_for_null : Tree
zero_for_null = call (case_when 1 true) (three (call is_null (one x)) (lit_i32 0) x)

abbrev pub Row7 : Type 0
Row7 = Evaluates zero_for_null (with_x i32_or_null) i32_or_null (row_of null ∷ row_of (number_of 4) ∷ []) (number_of 0 ∷ number_of 4 ∷ [])
    × (sql zero_for_null ≡ codes "CASE WHEN vortex.is_null($.x) THEN 0i32 ELSE $.x END")

-- ---- 8: the first true condition wins, and null is not true

abbrev pub x_above : ℕ → Tree
x_above n = operated (compares greater) x (lit_i32 n)

abbrev pub two_cases : Tree
two_cases = call (case_when 2 true) (tree (x_above 0) (tree (lit_i32 10) (three (x_above 3) (lit_i32 20) (lit_i32 30))))

abbrev pub Row8 : Type 0
Row8 = Evaluates two_cases (with_x i32_or_null) i32 (row_of (number_of 1) ∷ row_of (number_of 5) ∷ row_of null ∷ [])
    (number_of 10 ∷ number_of 10 ∷ number_of 30 ∷ [])
    × (sql two_cases ≡ codes "CASE WHEN ($.x > 0i32) THEN 10i32 WHEN ($.x > 3i32) THEN 20i32 ELSE 30i32 END")

-- ---- 9: the text of a zip

abbrev pub Row9 : Type 0
Row9 = sql (call zip (three (lit_i32 1) root (lit (ty (atomic truth) false) (bool true)))) ≡ codes "zip(1i32, $, true)"

-- ---- 11: an unknown name that is left out

abbrev pub Row11 : Type 0
Row11 = Refuses (call (select (Exclude (codes "zz" ∷ []))) (one root)) harness_type (NoSuchField (codes "zz"))

-- ---- 12: types that differ, and a condition that is no truth value

abbrev pub Row12 : Type 0
Row12 = Refuses (operated (compares equal) (col (codes "a")) (lit_text (codes "nope"))) harness_type BaseTypesDiffer
    × Refuses (call (case_when 1 true) (three (col (codes "a")) (lit_i32 1) (lit_i32 2))) harness_type NotBool

-- ---- 13: a branch that isn't chosen faults all the same, but not in no rows

abbrev pub sum_out_of_range : Tree
sum_out_of_range = operated (computes Sum) (lit i8 (number_of 127)) (lit i8 (number_of 1))

abbrev pub unchosen_sum : Tree
unchosen_sum = call (case_when 1 true) (three (lit (ty (atomic truth) false) (bool false)) sum_out_of_range (lit i8 (number_of 0)))

abbrev pub null_sum : Tree
null_sum = operated (computes Sum) (lit (ty (atomic (number I8)) true) null) (lit i8 (number_of 1))

abbrev pub Row13 : Type 0
Row13 = Faults unchosen_sum i8 (number_of 0 ∷ []) (Some (AddOverflow 0))
    × Faults unchosen_sum i8 [] None
    × Faults null_sum i8 (number_of 0 ∷ []) None
    × Evaluates null_sum i8 (ty (atomic (number I8)) true) (number_of 0 ∷ []) (null ∷ [])

-- ---- 14: a fill is one value

abbrev pub with_x_and_y : LogicalType
with_x_and_y = struct_type (field (codes "x") i32_or_null (field (codes "y") i32 no_field))

abbrev pub x_or_y : Tree
x_or_y = call fill_null (two x (col (codes "y")))

abbrev pub Row14 : Type 0
Row14 = Evaluates x_or_y with_x_and_y i32 (row_of_two null (number_of 7) ∷ row_of_two (number_of 3) (number_of 7) ∷ []) (number_of 7 ∷ number_of 3 ∷ [])
    × Faults x_or_y with_x_and_y (row_of_two null (number_of 7) ∷ row_of_two (number_of 3) (number_of 7) ∷ []) None
    × Faults x_or_y with_x_and_y (row_of_two null (number_of 1) ∷ row_of_two (number_of 3) (number_of 2) ∷ []) (Some BadFill)
    × Faults x_or_y with_x_and_y [] None

-- ---- 21: patterns

abbrev pub Likes : (case_insensitive : Bool) → List ℕ → List ℕ → Bool → Type 0
Likes case_insensitive t pattern answer =
    Evaluates (call (like false case_insensitive) (two (lit_text t) (lit_text pattern))) i32 (ty (atomic truth) false) (number_of 0 ∷ []) (bool answer ∷ [])

abbrev pub Row21 : Type 0
Row21 = Likes false (codes "a%b") (codes "a\\%b") true
    × Likes false (codes "axb") (codes "a\\%b") false
    × Likes false (codes "axb") (codes "a_b") true
    × Likes false (codes "x\\") (codes "x\\") true
    × Likes true (codes "ABC") (codes "a%") true

-- ---- 22: the first field of a name is meant everywhere

abbrev pub Row22 : Type 0
Row22 = Evaluates (call (select (Exclude [])) (one root)) (struct_type (field (codes "x") i32 (field (codes "x") utf8_type no_field)))
    (struct_type (field (codes "x") i32 (field (codes "x") i32 no_field)))
    (row_of_two (number_of 1) (utf8 (codes "t")) ∷ []) (row_of_two (number_of 1) (number_of 1) ∷ [])

-- ---- 24: the number of children, and a CASE without a pair

abbrev pub Row24 : Type 0
Row24 = Refuses (call zip (one root)) i32 (ArityMismatch 3 1) × Refuses (call (case_when 0 false) no_tree) i32 NoPairs

-- ---- 26: the first value that doesn't fit

abbrev pub Row26 : Type 0
Row26 = (first_misfit i8 (number_of 127 ∷ number_of 300 ∷ []) ≡ Some 1)
    × (first_misfit (ty (atomic (number U64)) false) (number_of 18446744073709551615 ∷ []) ≡ None)
