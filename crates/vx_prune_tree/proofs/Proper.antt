-- Bounds along paths and what functions give of trees' bounds are proper, so that all that a type takes away of them is null.
use Rattle.std.proofs.Common.{◌≡◌, List, [], ◌∷◌, refl, sym, subst, true, Option, Some, None}
use Rattle.std.specs.Prelude.{is_some}
use Rattle.vx_value.specs.Paths.{Path}
use Rattle.vx_value.specs.Types.{Data}
use Rattle.vx_fn.specs.Functions.{Function, case_when, get_item, literal, pack, select, fill_null, zip, binary, logical_not, between, like, is_null, is_not_null, mask, cast, starts_with, byte_length, list_contains, Operation, compares, and_also, or_else, computes}
use Rattle.vx_tree.specs.Trees.{BoundTree, scope, node, BoundTrees, no_bound, bound}
use Rattle.vx_prune_bounds.proofs.Contained.{exactly-proper, implied}
use Rattle.vx_prune_bounds.proofs.Lattice.{meet-proper}
use Rattle.vx_prune_bounds.proofs.Monotone.{EachProper, case-proper, choice-proper, fill-proper, mask-proper, shaped_as-proper, arithmetic-proper, truth_bounds-proper}
use Rattle.vx_prune_bounds.specs.Bounds.{Bounds, any_of, IsProper}
use Rattle.vx_prune_bounds.specs.Comparing.{between_truths, comparison_truths}
use Rattle.vx_prune_bounds.specs.Kernels.{null_truths}
use Rattle.vx_prune_bounds.specs.Truths.{and_truths, not_truths, or_truths, truths_in}
use Rattle.vx_prune_bounds.specs.Beginnings.{like_truths}
use Rattle.vx_prune_bounds.specs.Begun.{begun_truths}
use Rattle.vx_prune_bounds.specs.Searching.{search_truths}
use Rattle.vx_prune_bounds.proofs.Lengths.{length-proper}
use Rattle.vx_prune_tree.proofs.StatisticsBounding.{field_bounds-proper}
use Rattle.vx_prune_tree.specs.Stats.{Facts, facts_at, field_bounds}
use Rattle.vx_prune_tree.proofs.Steps.{some_path}
use Rattle.vx_prune_tree.specs.Bounding.{at_path_or, binary_bounds, bounds_in, each_bounds_in, fn_bounds, given_bounds, item_bounds, item_path, of_one, of_three, of_two, path_to, path_to_only, searched, unknown}

-- ---- functions

one-proper : (f : Bounds → Bounds) → ((x : Bounds) → IsProper x → IsProper (f x)) → (xs : List Bounds) → EachProper xs → IsProper (of_one f xs)
one-proper f k [] p = refl
one-proper f k (x ∷ []) p = k x p.0
one-proper f k (x ∷ y ∷ xs) p = refl

two-proper : (f : Bounds → Bounds → Bounds) → ((x y : Bounds) → IsProper x → IsProper y → IsProper (f x y)) → (xs : List Bounds) → EachProper xs → IsProper (of_two f xs)
two-proper f k [] p = refl
two-proper f k (x ∷ []) p = refl
two-proper f k (x ∷ y ∷ []) p = k x y p.0 p.1.0
two-proper f k (x ∷ y ∷ z ∷ xs) p = refl

three-proper : (f : Bounds → Bounds → Bounds → Bounds) → ((x y z : Bounds) → IsProper x → IsProper y → IsProper (f x y z)) → (xs : List Bounds) → EachProper xs → IsProper (of_three f xs)
three-proper f k [] p = refl
three-proper f k (x ∷ []) p = refl
three-proper f k (x ∷ y ∷ []) p = refl
three-proper f k (x ∷ y ∷ z ∷ []) p = k x y z p.0 p.1.0
three-proper f k (x ∷ y ∷ z ∷ w ∷ xs) p = refl

binary-proper : (op : Operation) (x y : Bounds) → IsProper x → IsProper y → IsProper (binary_bounds op x y)
binary-proper (compares c) x y p q = truth_bounds-proper (comparison_truths c x y)
binary-proper and_also x y p q = truth_bounds-proper (and_truths (truths_in x) (truths_in y))
binary-proper or_else x y p q = truth_bounds-proper (or_truths (truths_in x) (truths_in y))
binary-proper (computes a) x y p q = arithmetic-proper a x y p q

fn_bounds-proper : (f : Function) (xs : List Bounds) → EachProper xs → IsProper (fn_bounds f xs)
fn_bounds-proper (case_when pairs has_else) xs p = case-proper xs p
fn_bounds-proper (get_item a) xs p = one-proper item_bounds (λ x q. implied x.value true (λ _. refl)) xs p
fn_bounds-proper (literal u v) xs p = exactly-proper v
fn_bounds-proper (pack names n) xs p = refl
fn_bounds-proper (select selection) xs p = one-proper _ (λ x q. shaped_as-proper x) xs p
fn_bounds-proper fill_null xs p = two-proper _ (λ x y q r. fill-proper x y q r) xs p
fn_bounds-proper zip xs p = three-proper _ (λ x y m q r. choice-proper (truths_in m) x y q r) xs p
fn_bounds-proper (binary op) xs p = two-proper (binary_bounds op) (binary-proper op) xs p
fn_bounds-proper logical_not xs p = one-proper _ (λ x q. truth_bounds-proper (not_truths (truths_in x))) xs p
fn_bounds-proper (between ls us) xs p = three-proper _ (λ x l u q r. truth_bounds-proper (between_truths ls us x l u)) xs p
fn_bounds-proper (like negated ci) xs p = two-proper _ (λ x y q r. truth_bounds-proper (like_truths negated ci x y)) xs p
fn_bounds-proper is_null xs p = one-proper _ (λ x q. truth_bounds-proper (null_truths x)) xs p
fn_bounds-proper is_not_null xs p = one-proper _ (λ x q. truth_bounds-proper (not_truths (null_truths x))) xs p
fn_bounds-proper mask xs p = two-proper _ (λ x m q r. mask-proper x (truths_in m) q) xs p
fn_bounds-proper (cast u) xs p = one-proper _ (λ x q. q) xs p
fn_bounds-proper starts_with xs p = two-proper _ (λ x y q r. truth_bounds-proper (begun_truths x y)) xs p
fn_bounds-proper byte_length xs p = one-proper _ (λ x q. length-proper x) xs p
fn_bounds-proper list_contains xs p = two-proper _ (λ x y q r. refl) xs p

given_bounds-proper : (f : Function) (known : Option Data) (xs : List Bounds) → EachProper xs → IsProper (given_bounds f known xs)
given_bounds-proper f None xs p = fn_bounds-proper f xs p
given_bounds-proper f (Some ws) xs p = two-proper _ (λ x y q r. truth_bounds-proper (search_truths ws y)) xs p

-- ---- trees

bounds_in-proper : (facts : Facts) (b : BoundTree) → IsProper (bounds_in facts b)
bounds_in-proper facts (scope t) = meet-proper (any_of t) (at_path_or facts (Some []) unknown)
bounds_in-proper facts (node t f bs) = meet-proper (any_of t) (at_path_or facts (item_path f (path_to_only bs)) (given_bounds f (searched f bs) (each_bounds_in facts bs)))

each_bounds_in-proper : (facts : Facts) (bs : BoundTrees) → EachProper (each_bounds_in facts bs)
each_bounds_in-proper facts no_bound = tt
each_bounds_in-proper facts (bound b bs) = (bounds_in-proper facts b, each_bounds_in-proper facts bs)

-- bounds along a tree's path are proper
pub along-proper : (facts : Facts) (b : BoundTree) (y : Bounds) → is_some (path_to b) ≡ true →
    ((path : Path) → path_to b ≡ Some path → y ≡ field_bounds facts.rows (facts_at facts.fields path)) → IsProper y
along-proper facts b y s along = let p = some_path (path_to b) s in subst IsProper (sym (along p.0 p.1)) (field_bounds-proper facts.rows (facts_at facts.fields p.0))

-- and so are those that a function gives
pub given-proper : (facts : Facts) (f : Function) (bs : BoundTrees) (y : Bounds) → y ≡ given_bounds f (searched f bs) (each_bounds_in facts bs) → IsProper y
given-proper facts f bs y e = subst IsProper (sym e) (given_bounds-proper f (searched f bs) (each_bounds_in facts bs) (each_bounds_in-proper facts bs))
