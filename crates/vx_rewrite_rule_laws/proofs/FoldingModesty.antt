-- Folding is modest: its new children come from below the root, or are literals, at which it gives nothing.
use Rattle.std.proofs.Common.{ℕ}
use Rattle.vx_tree.specs.Trees.{BoundTree, BoundTrees}
use Rattle.vx_tree.specs.Nodes.{bound_children_of}
use Rattle.vx_rewrite_core.proofs.Prelude.{below_inside}
use Rattle.vx_rewrite_core.specs.FromSubterms.{Inside, at_first, in_first, in_rest, IsLiteral, is_literal, EachFrom, from_none, from_inside, from_literal, FromSubterms}
use Rattle.vx_rewrite_rule_laws.proofs.Folds.{Folds, constant, neutral_left, neutral_right, decided_left, decided_right, equal_sides, unchanged_left, unchanged_right, null_list, null_element, in_nothing, null_denied, value_denied, null_left, null_right, null_within, null_bounds, negated_twice, own_cast, masked_nowhere, begun, never_null, always_there, fewer_pairs, folds}
use Rattle.vx_rewrite_rule_laws.proofs.Pairs.{Without, no_pair, else_alone, left_out, stays}
use Rattle.vx_rewrite_rule_laws.specs.Folding.{FoldAt}

-- so are the pairs that are kept
kept_from : {rest kept : BoundTrees} {n : ℕ} → Without rest kept n → (xs : BoundTrees) → ((x : BoundTree) → Inside x rest → Inside x xs) → EachFrom xs kept
kept_from no_pair xs k = from_none
kept_from else_alone xs k = from_inside (k _ at_first) from_none
kept_from (left_out e l) xs k = kept_from l xs (λ x i. k x (in_rest (in_rest i)))
kept_from (stays l) xs k = from_inside (k _ at_first) (from_inside (k _ (in_rest at_first)) (kept_from l xs (λ x i. k x (in_rest (in_rest i)))))

each_from : (b u : BoundTree) → Folds b u → EachFrom (bound_children_of b) (bound_children_of u)
each_from b u (constant i e n) = from_none
each_from b u (neutral_left {y = y} k e) = below_inside y _ (in_rest at_first)
each_from b u (neutral_right {x = x} k e) = below_inside x _ at_first
each_from b u (decided_left k e) = from_none
each_from b u (decided_right k e) = from_none
each_from b u (equal_sides {x = x} k) = below_inside x _ at_first
each_from b u (unchanged_left {x = x} e) = below_inside x _ at_first
each_from b u (unchanged_right {y = y} s e) = below_inside y _ (in_rest at_first)
each_from b u (null_left e) = from_none
each_from b u (null_right e) = from_none
each_from b u (null_within e) = from_none
each_from b u (null_bounds e f) = from_none
each_from b u (null_list e) = from_none
each_from b u (null_element e) = from_none
each_from b u (in_nothing e f) = from_none
each_from b u (negated_twice {x = x}) = below_inside x _ (in_first at_first)
each_from b u null_denied = from_inside (in_first at_first) from_none
each_from b u value_denied = from_inside (in_first at_first) from_none
each_from b u (own_cast {x = x} e) = below_inside x _ at_first
each_from b u (masked_nowhere {x = x} e) = below_inside x _ at_first
each_from b u (begun e) = from_inside at_first (from_literal is_literal from_none)
each_from b u (never_null e) = from_none
each_from b u (always_there e) = from_none
each_from b u (fewer_pairs k l e) = kept_from (stays k) _ (λ x i. i)

at_no_literal : {b u : BoundTree} → IsLiteral b → FoldAt b u → ⊥
at_no_literal is_literal e = cc

pub folds_modest : FromSubterms FoldAt
folds_modest = record { from = λ b u e. each_from b u (folds b u e); at_literals = λ b l u e. at_no_literal l e }
