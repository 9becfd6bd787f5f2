-- Folding: what stands for a node whose value is known before any row is read.
use Rattle.std.specs.Prelude.{◌≡◌, ℕ, ◌+◌, ◌-◌, ℤ, pos, Bool, true, false, ◌&&◌, ◌||◌, not, List, [], ◌∷◌, Option, Some, None, option_and_then, if◌then◌else◌, nat_lt}
use Rattle.std.specs.Option.{option_map, option_or, is_none}
use Rattle.std.specs.Ordering.{int_eq}
use Rattle.std.specs.Result.{result_ok}
use Rattle.vx_floats.specs.declared.arithmetic.Arithmetic.{Arithmetic}
use Rattle.vx_floats.specs.declared.arithmetic.Arithmetic.TheVariants.{Sum, Difference, Product, Quotient, Remainder}
use Rattle.vx_value.specs.Equality.{equal_type}
use Rattle.vx_eval_like.specs.Beginnings.{beginning_of}
use Rattle.vx_value.specs.Types.{LogicalType, Datum, null, bool, int, utf8, list_of, no_datum, is_nullable, is_null_datum}
use Rattle.vx_fn.specs.Functions.{Function, case_when, get_item, literal, pack, select, zip, fill_null, binary, logical_not, between, like, is_null, is_not_null, mask, cast, starts_with, byte_length, list_contains, compares, and_also, or_else, computes, is_symmetric, truth_type}
use Rattle.vx_fn.specs.Values.{is_true}
use Rattle.vx_tree.specs.Binding.{node_over}
use Rattle.vx_tree.specs.Equality.{equal_bound}
use Rattle.vx_tree.specs.Faults.{first_fault}
use Rattle.vx_tree.specs.Meaning.{value}
use Rattle.vx_tree.specs.Trees.{BoundTree, node, BoundTrees, no_bound, bound, node_type}
use Rattle.vx_rewrite_rule_laws.specs.Branches.{BranchRuleAt}
use Rattle.vx_rewrite_core.specs.Steps.{GivesNothing}
use Rattle.vx_rewrite_core.specs.Nodes.{two_bounds, one_bound, only_one, two_of, three_of, first_two, only_if, literal_node, literal_value}
use Rattle.vx_rewrite_core.specs.Sets.{either}

-- ---- literals

-- whether the tree is a literal whose value passes the test
abbrev pub is_literal_of : (Datum → Bool) → BoundTree → Bool
is_literal_of test (node t (literal u c) xs) = test c
is_literal_of test _ = false

-- whether each of the trees is a literal
abbrev pub are_literals : BoundTrees → Bool
are_literals no_bound = true
are_literals (bound x xs) = is_literal_of (λ c. true) x && are_literals xs

-- the literal of that truth value, of the type without null
abbrev pub truth_literal : Bool → BoundTree
truth_literal b = literal_node (truth_type false) (bool b)

-- ---- a node over literals

-- the functions that are computed where all children are literals
abbrev pub is_computed : Function → Bool
is_computed fill_null = true
is_computed (binary op) = true
is_computed logical_not = true
is_computed (between lower_strict upper_strict) = true
is_computed (like negated case_insensitive) = true
is_computed is_null = true
is_computed is_not_null = true
is_computed mask = true
is_computed (cast t) = true
is_computed starts_with = true
is_computed byte_length = true
is_computed list_contains = true
is_computed (case_when pairs has_else) = false
is_computed (get_item a) = false
is_computed (literal t c) = false
is_computed (pack names nullable) = false
is_computed (select selection) = false
is_computed zip = false

-- one row: which doesn't matter, since literals give the same in each
abbrev pub one_row : List Datum
one_row = null ∷ []

-- the literal of the value and type of such a node, unless it faults
abbrev pub constant_given : BoundTree → Option BoundTree
constant_given (node t f xs) = only_if (is_computed f && are_literals xs && is_none (first_fault (node t f xs) one_row)) (literal_node t (value (node t f xs) null))
constant_given _ = None

-- ---- And and Or

-- beside a literal in And or Or: the other side where the literal is the truth value that leaves it as it is, that literal where it decides
abbrev pub beside : Bool → BoundTree → Datum → Option BoundTree
beside neutral x (bool true) = Some (if neutral then x else truth_literal true)
beside neutral x (bool false) = Some (if neutral then truth_literal false else x)
beside neutral x _ = None

-- And or Or, where true or false leaves the other side as it is: by a literal on the left, or one on the right, or one of two equal sides
abbrev pub logic_given : Bool → BoundTree → BoundTree → Option BoundTree
logic_given neutral x y =
    option_or (option_and_then (beside neutral y) (literal_value x))
    (option_or (option_and_then (beside neutral x) (literal_value y))
    (only_if (equal_bound x y) x))

-- ---- arithmetic

-- whether a number that it is added to, subtracted from, multiplied with or divided by that one stays as it is
abbrev pub leaves_as_is : Arithmetic → ℤ → Bool
leaves_as_is Sum i = int_eq i (pos 0)
leaves_as_is Difference i = int_eq i (pos 0)
leaves_as_is Product i = int_eq i (pos 1)
leaves_as_is Quotient i = int_eq i (pos 1)
leaves_as_is Remainder i = false

-- whether the value is such a whole number, or so many units of a decimal
abbrev pub is_neutral : Arithmetic → Datum → Bool
is_neutral a (int i) = leaves_as_is a i
is_neutral a _ = false

-- beside such a literal the other operand; on the left only where operands may be exchanged
abbrev pub arithmetic_given : Arithmetic → BoundTree → BoundTree → Option BoundTree
arithmetic_given a x y = option_or (only_if (is_literal_of (is_neutral a) y) x) (only_if (is_symmetric a && is_literal_of (is_neutral a) x) y)

-- ---- null operands

-- a comparison with a null, or a search in one or of one
abbrev pub comparison_given : LogicalType → BoundTree → BoundTree → Option BoundTree
comparison_given t x y = only_if (is_literal_of is_null_datum x || is_literal_of is_null_datum y) (literal_node t null)

-- a test of a null by two bounds, or by two nulls; one null bound doesn't decide, since the other may say false
abbrev pub between_given : LogicalType → BoundTree → BoundTree → BoundTree → Option BoundTree
between_given t x l u = only_if (is_literal_of is_null_datum x || (is_literal_of is_null_datum l && is_literal_of is_null_datum u)) (literal_node t null)

-- ---- searches in lists

-- whether the value is a list without elements
abbrev pub is_empty_list : Datum → Bool
is_empty_list (list_of no_datum) = true
is_empty_list _ = false

-- a search in a null list or of a null, and one of what is never null in a list without elements
abbrev pub contains_given : LogicalType → BoundTree → BoundTree → Option BoundTree
contains_given t xs y = option_or (comparison_given t xs y) (only_if (is_literal_of is_empty_list xs && not (is_nullable (node_type y))) (truth_literal false))

-- ---- what a function of one child undoes or knows

-- the test whether there is a null, or that there is none
abbrev pub null_test : Bool → BoundTree → BoundTree
null_test true x = node (truth_type false) is_null (one_bound x)
null_test false x = node (truth_type false) is_not_null (one_bound x)

-- the negation of a negation, and that of a test for null
abbrev pub not_given : BoundTree → Option BoundTree
not_given (node t logical_not xs) = only_one xs
not_given (node t is_null xs) = option_map (null_test false) (only_one xs)
not_given (node t is_not_null xs) = option_map (null_test true) (only_one xs)
not_given _ = None

-- a cast to the type of what is cast
abbrev pub cast_given : LogicalType → BoundTree → Option BoundTree
cast_given t x = only_if (equal_type (node_type x) t) x

-- a mask that is true in every row
abbrev pub mask_given : BoundTree → BoundTree → Option BoundTree
mask_given x m = only_if (is_literal_of is_true m) x

-- a test for null of what is never null
abbrev pub test_given : Bool → BoundTree → Option BoundTree
test_given answer x = only_if (not (is_nullable (node_type x))) (truth_literal answer)

-- ---- LIKE

-- a test whether what is matched begins so
abbrev pub begins_so : LogicalType → BoundTree → LogicalType → List ℕ → BoundTree
begins_so t x u q = node t starts_with (two_bounds x (literal_node u (utf8 q)))

-- a match with the literal pattern of a beginning
abbrev pub like_given : LogicalType → BoundTree → BoundTree → Option BoundTree
like_given t x (node u (literal v (utf8 p)) xs) = option_map (begins_so t x u) (beginning_of p)
like_given t x _ = None

-- ---- CASE

-- whether the condition is the literal false or null, which never holds
abbrev pub is_idle : BoundTree → Bool
is_idle = is_literal_of (λ c. not (is_true c))

-- how many pairs have such a condition
abbrev pub idle_pairs : BoundTrees → ℕ
idle_pairs (bound c (bound x rest)) = if is_idle c then idle_pairs rest + 1 else idle_pairs rest
idle_pairs _ = 0

-- the pairs without these, and ELSE
abbrev pub without_idle : BoundTrees → BoundTrees
without_idle (bound c (bound x rest)) = if is_idle c then without_idle rest else bound c (bound x (without_idle rest))
without_idle xs = xs

-- the CASE of a first pair and the others but the idle ones, if there are any, with the type that they give
abbrev pub case_given : ℕ → Bool → BoundTree → BoundTree → BoundTrees → Option BoundTree
case_given pairs has_else c x rest =
    if nat_lt 0 (idle_pairs rest) then result_ok (node_over (case_when (pairs - idle_pairs rest) has_else) (bound c (bound x (without_idle rest)))) else None

-- ---- the rules

-- what is given by the function of a node whose children aren't all literals
abbrev pub known_given : BoundTree → Option BoundTree
known_given (node t (binary and_also) xs) = option_and_then (λ p. logic_given true p.0 p.1) (two_of xs)
known_given (node t (binary or_else) xs) = option_and_then (λ p. logic_given false p.0 p.1) (two_of xs)
known_given (node t (binary (compares c)) xs) = option_and_then (λ p. comparison_given t p.0 p.1) (two_of xs)
known_given (node t (binary (computes a)) xs) = option_and_then (λ p. arithmetic_given a p.0 p.1) (two_of xs)
known_given (node t (between lower_strict upper_strict) xs) = option_and_then (λ p. between_given t p.0 p.1 p.2) (three_of xs)
known_given (node t logical_not xs) = option_and_then not_given (only_one xs)
known_given (node t (cast u) xs) = option_and_then (cast_given t) (only_one xs)
known_given (node t mask xs) = option_and_then (λ p. mask_given p.0 p.1) (two_of xs)
known_given (node t (like false false) xs) = option_and_then (λ p. like_given t p.0 p.1) (two_of xs)
known_given (node t list_contains xs) = option_and_then (λ p. contains_given t p.0 p.1) (two_of xs)
known_given (node t is_null xs) = option_and_then (test_given false) (only_one xs)
known_given (node t is_not_null xs) = option_and_then (test_given true) (only_one xs)
known_given (node t (case_when pairs has_else) xs) = option_and_then (λ p. case_given pairs has_else p.0 p.1 p.2) (first_two xs)
known_given _ = None

-- what folding gives at a node, if anything: its value over literals, else by its function
abbrev pub fold_given : BoundTree → Option BoundTree
fold_given b = option_or (constant_given b) (known_given b)

-- the same as a relation
abbrev pub FoldAt : BoundTree → BoundTree → Type 0
FoldAt b u = fold_given b ≡ Some u

-- what the second of two sets gives where the first gives nothing
abbrev pub behind : (BoundTree → BoundTree → Type 0) → (BoundTree → BoundTree → Type 0) → BoundTree → BoundTree → Type 0
behind R S b u = GivesNothing R b × S b u

-- the branch rules, and where none of them fits, folding
abbrev pub FoldingRuleAt : BoundTree → BoundTree → Type 0
FoldingRuleAt = either BranchRuleAt (behind BranchRuleAt FoldAt)
