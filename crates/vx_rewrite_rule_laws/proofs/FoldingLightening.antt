-- What folding gives is lighter.
use Rattle.std.proofs.Common.{◌≡◌, ℕ, ◌+◌, ◌<◌, ◌≤◌, true, arith}
use Rattle.std.specs.Prelude.{Ok}
use Rattle.vx_value.specs.Types.{LogicalType}
use Rattle.vx_fn.specs.Functions.{Function, literal, fill_null, fn_type}
use Rattle.vx_tree.specs.Trees.{BoundTree, scope, node, BoundTrees, no_bound, bound, node_types, WellTyped}
use Rattle.vx_rewrite_core.specs.Weights.{weight, weights}
use Rattle.vx_rewrite_core.specs.Sets.{Lightening}
use Rattle.vx_rewrite_rule_laws.proofs.Folds.{Folds, constant, neutral_left, neutral_right, decided_left, decided_right, equal_sides, unchanged_left, unchanged_right, null_list, null_element, in_nothing, null_denied, value_denied, null_left, null_right, null_within, null_bounds, negated_twice, own_cast, masked_nowhere, begun, never_null, always_there, fewer_pairs, folds}
use Rattle.vx_rewrite_rule_laws.proofs.Pairs.{Without, no_pair, else_alone, left_out, stays}
use Rattle.vx_rewrite_rule_laws.specs.Folding.{is_computed, FoldAt}

-- every tree has some weight
some_weight : (b : BoundTree) → 0 < weight b
some_weight (scope t) = omega arith
some_weight (node t (literal u c) xs) = omega arith
some_weight (node t _ xs) = omega arith

-- a node that is computed has children, and so more weight than a literal
over_some : (t : LogicalType) (f : Function) (x : BoundTree) (xs : BoundTrees) → is_computed f ≡ true → 1 < weight (node t f (bound x xs))
over_some t (literal u c) x xs e = cc
over_some t _ x xs e = let h = some_weight x in omega (arith, h)

computed-weight : (t : LogicalType) (f : Function) (xs : BoundTrees) → fn_type f (node_types xs) ≡ Ok t → is_computed f ≡ true → 1 < weight (node t f xs)
computed-weight t f (bound x xs) w e = over_some t f x xs e
computed-weight t fill_null no_bound w e = cc
computed-weight t _ no_bound w e = cc

-- the pairs that are left out have some weight
kept-weight : {rest kept : BoundTrees} {n : ℕ} → Without rest kept n → n + weights kept ≤ weights rest
kept-weight no_pair = omega arith
kept-weight else_alone = omega arith
kept-weight (left_out {c = c} {x = x} e k) = let h = kept-weight k in let l = some_weight c in omega (arith, h, l)
kept-weight (stays k) = let h = kept-weight k in omega (arith, h)

each_lightens : (b u : BoundTree) → WellTyped b → Folds b u → weight u < weight b
each_lightens b u w (constant {t = t} {f = f} {xs = xs} i e n) = computed-weight t f xs w.0 i
each_lightens b u w (neutral_left k e) = omega arith
each_lightens b u w (neutral_right k e) = omega arith
each_lightens b u w (decided_left {x = x} k e) = let h = some_weight x in omega (arith, h)
each_lightens b u w (decided_right {x = x} k e) = let h = some_weight x in omega (arith, h)
each_lightens b u w (equal_sides k) = omega arith
each_lightens b u w (unchanged_left e) = omega arith
each_lightens b u w (unchanged_right s e) = omega arith
each_lightens b u w (null_left {x = x} e) = let h = some_weight x in omega (arith, h)
each_lightens b u w (null_right {x = x} e) = let h = some_weight x in omega (arith, h)
each_lightens b u w (null_within {x = x} e) = let h = some_weight x in omega (arith, h)
each_lightens b u w (null_bounds {x = x} e f) = let h = some_weight x in omega (arith, h)
each_lightens b u w (null_list {x = x} e) = let h = some_weight x in omega (arith, h)
each_lightens b u w (null_element {x = x} e) = let h = some_weight x in omega (arith, h)
each_lightens b u w (in_nothing {x = x} e f) = let h = some_weight x in omega (arith, h)
each_lightens b u w negated_twice = omega arith
each_lightens b u w null_denied = omega arith
each_lightens b u w value_denied = omega arith
each_lightens b u w (own_cast e) = omega arith
each_lightens b u w (masked_nowhere e) = omega arith
each_lightens b u w (begun e) = omega arith
each_lightens b u w (never_null {x = x} e) = let h = some_weight x in omega (arith, h)
each_lightens b u w (always_there {x = x} e) = let h = some_weight x in omega (arith, h)
each_lightens b u w (fewer_pairs k l e) = let h = kept-weight k in omega (arith, h)

pub folds_lighten : Lightening FoldAt
folds_lighten b u w e = each_lightens b u w (folds b u e)
