-- Bounds of a tree's values in a chunk of which something is known.
use Rattle.std.specs.Prelude.{true, false, List, [], ◌∷◌, ◌++◌, Option, Some, None, option_map}
use Rattle.vx_value.specs.Paths.{Path}
use Rattle.vx_value.specs.Types.{Datum, Data, list_of}
use Rattle.vx_fn.specs.Functions.{Function, case_when, get_item, literal, pack, select, fill_null, zip, binary, logical_not, between, like, is_null, is_not_null, mask, cast, starts_with, byte_length, list_contains, Operation, compares, and_also, or_else, computes}
use Rattle.vx_tree.specs.Trees.{BoundTree, scope, node, BoundTrees, no_bound, bound}
use Rattle.vx_prune_bounds.specs.Bounds.{Bounds, bounds, any_of, exactly, meet}
use Rattle.vx_prune_bounds.specs.Truths.{truths_in, truth_bounds, not_truths, and_truths, or_truths}
use Rattle.vx_prune_bounds.specs.Comparing.{comparison_truths, between_truths}
use Rattle.vx_prune_bounds.specs.Kernels.{arithmetic_bounds, fill_bounds, choice_bounds, mask_bounds, case_bounds, null_truths, shaped_as, length_bounds}
use Rattle.vx_prune_bounds.specs.Beginnings.{like_truths}
use Rattle.vx_prune_bounds.specs.Begun.{begun_truths}
use Rattle.vx_prune_bounds.specs.Searching.{search_truths}
use Rattle.vx_prune_tree.specs.Stats.{Facts, facts_at, field_bounds}

-- ---- paths

-- the path to a field of that name behind the child's, if it is one
abbrev pub item_path : Function → Option Path → Option Path
item_path (get_item a) child = option_map (λ path. path ++ a ∷ []) child
item_path (case_when pairs has_else) child = None
item_path (literal u v) child = None
item_path (pack names n) child = None
item_path (select selection) child = None
item_path fill_null child = None
item_path zip child = None
item_path (binary op) child = None
item_path logical_not child = None
item_path (between ls us) child = None
item_path (like negated ignore_case) child = None
item_path is_null child = None
item_path is_not_null child = None
item_path mask child = None
item_path (cast u) child = None
item_path starts_with child = None
item_path byte_length child = None
item_path list_contains child = None

-- the path whose values the tree's are: of the scope root the root path, and of a field of such a tree the path behind it
abbrev mutual
  pub path_to : BoundTree → Option Path
  path_to (scope t) = Some []
  path_to (node t f bs) = item_path f (path_to_only bs)

  -- so of the only tree
  pub path_to_only : BoundTrees → Option Path
  path_to_only (bound b no_bound) = path_to b
  path_to_only _ = None

-- ---- functions

-- that nothing is known of a value
abbrev pub unknown : Bounds
unknown = bounds true true None None

-- what f gives of the bounds of one child
abbrev pub of_one : (Bounds → Bounds) → List Bounds → Bounds
of_one f (x ∷ []) = f x
of_one f _ = unknown

-- what f gives of the bounds of two children
abbrev pub of_two : (Bounds → Bounds → Bounds) → List Bounds → Bounds
of_two f (x ∷ y ∷ []) = f x y
of_two f _ = unknown

-- what f gives of the bounds of three children
abbrev pub of_three : (Bounds → Bounds → Bounds → Bounds) → List Bounds → Bounds
of_three f (x ∷ y ∷ z ∷ []) = f x y z
of_three f _ = unknown

-- bounds of a struct that isn't null
abbrev pub a_struct : Bounds
a_struct = bounds false true None None

-- bounds of a field of a struct within these
abbrev pub item_bounds : Bounds → Bounds
item_bounds x = bounds true x.value None None

-- bounds of what a binary function gives
abbrev pub binary_bounds : Operation → Bounds → Bounds → Bounds
binary_bounds (compares c) x y = truth_bounds (comparison_truths c x y)
binary_bounds and_also x y = truth_bounds (and_truths (truths_in x) (truths_in y))
binary_bounds or_else x y = truth_bounds (or_truths (truths_in x) (truths_in y))
binary_bounds (computes a) x y = arithmetic_bounds a x y

-- bounds of what a function gives of its children's values, by their bounds
abbrev pub fn_bounds : Function → List Bounds → Bounds
fn_bounds (case_when pairs has_else) = case_bounds
fn_bounds (get_item a) = of_one item_bounds
fn_bounds (literal u v) = λ _. exactly v
fn_bounds (pack names n) = λ _. a_struct
fn_bounds (select selection) = of_one shaped_as
fn_bounds fill_null = of_two fill_bounds
fn_bounds zip = of_three (λ x y m. choice_bounds (truths_in m) x y)
fn_bounds (binary op) = of_two (binary_bounds op)
fn_bounds logical_not = of_one (λ x. truth_bounds (not_truths (truths_in x)))
fn_bounds (between ls us) = of_three (λ x l u. truth_bounds (between_truths ls us x l u))
fn_bounds (like negated ignore_case) = of_two (λ x p. truth_bounds (like_truths negated ignore_case x p))
fn_bounds is_null = of_one (λ x. truth_bounds (null_truths x))
fn_bounds is_not_null = of_one (λ x. truth_bounds (not_truths (null_truths x)))
fn_bounds mask = of_two (λ x m. mask_bounds x (truths_in m))
fn_bounds (cast u) = of_one (λ x. x)
fn_bounds starts_with = of_two (λ x p. truth_bounds (begun_truths x p))
fn_bounds byte_length = of_one length_bounds
fn_bounds list_contains = of_two (λ x y. unknown)

-- ---- searches in known lists

-- the elements of a list
abbrev pub elements_of : Datum → Option Data
elements_of (list_of ws) = Some ws
elements_of _ = None

-- the elements of a list that is a literal
abbrev pub literal_elements : BoundTree → Option Data
literal_elements (node t (literal u v) bs) = elements_of v
literal_elements _ = None

-- the elements that a function searches whose first child this is, if they are known
abbrev pub searched_in : Function → BoundTree → Option Data
searched_in list_contains b = literal_elements b
searched_in _ b = None

-- the elements that a function of two children searches, if they are known
abbrev pub searched : Function → BoundTrees → Option Data
searched f (bound b (bound c no_bound)) = searched_in f b
searched f _ = None

-- bounds of what a function gives: of a search in known elements by those, else by the bounds of its children
abbrev pub given_bounds : Function → Option Data → List Bounds → Bounds
given_bounds f None xs = fn_bounds f xs
given_bounds f (Some ws) xs = of_two (λ l x. truth_bounds (search_truths ws x)) xs

-- ---- trees

-- bounds of the values along a path, where the tree's are those, else what the function gives
abbrev pub at_path_or : Facts → Option Path → Bounds → Bounds
at_path_or facts None otherwise = otherwise
at_path_or facts (Some path) otherwise = field_bounds facts.rows (facts_at facts.fields path)

-- bounds of a tree's values: by the statistics of its path, if it is one, else by its function and its children's bounds; always of the node's type
abbrev mutual
  pub bounds_in : Facts → BoundTree → Bounds
  bounds_in facts (scope t) = meet (any_of t) (at_path_or facts (Some []) unknown)
  bounds_in facts (node t f bs) = meet (any_of t) (at_path_or facts (item_path f (path_to_only bs)) (given_bounds f (searched f bs) (each_bounds_in facts bs)))

  pub each_bounds_in : Facts → BoundTrees → List Bounds
  each_bounds_in facts no_bound = []
  each_bounds_in facts (bound b bs) = bounds_in facts b ∷ each_bounds_in facts bs
