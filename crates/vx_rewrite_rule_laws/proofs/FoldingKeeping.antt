-- What folding gives keeps the tree at which it is given.
use Rattle.vx_tree.specs.Trees.{BoundTree, WellTyped}
use Rattle.vx_rewrite_core.specs.Keeps.{Keeps}
use Rattle.vx_rewrite_core.specs.Sets.{Keeping}
use Rattle.vx_rewrite_rule_laws.proofs.Cases.{keeps_fewer_pairs}
use Rattle.vx_rewrite_rule_laws.proofs.Constants.{keeps_constant}
use Rattle.vx_rewrite_rule_laws.proofs.Folds.{Folds, constant, neutral_left, neutral_right, decided_left, decided_right, equal_sides, unchanged_left, unchanged_right, null_list, null_element, in_nothing, null_denied, value_denied, null_left, null_right, null_within, null_bounds, negated_twice, own_cast, masked_nowhere, begun, never_null, always_there, fewer_pairs, folds}
use Rattle.vx_rewrite_rule_laws.proofs.Elements.{keeps_null_list, keeps_null_element, keeps_in_nothing}
use Rattle.vx_rewrite_rule_laws.proofs.Logic.{keeps_neutral_left, keeps_neutral_right, keeps_decided_left, keeps_decided_right, keeps_equal_sides}
use Rattle.vx_rewrite_rule_laws.proofs.Neutral.{keeps_unchanged_left, keeps_unchanged_right}
use Rattle.vx_rewrite_rule_laws.proofs.Nulls.{keeps_null_left, keeps_null_right, keeps_null_within, keeps_null_bounds, keeps_never_null, keeps_always_there}
use Rattle.vx_rewrite_rule_laws.proofs.Beginnings.{keeps_begun}
use Rattle.vx_rewrite_rule_laws.proofs.Undone.{keeps_negated_twice, keeps_null_denied, keeps_value_denied, keeps_own_cast, keeps_masked_nowhere}
use Rattle.vx_rewrite_rule_laws.specs.Folding.{FoldAt}

each_keeps : (b u : BoundTree) → WellTyped b → Folds b u → Keeps b u
each_keeps b u w (constant {t = t} {f = f} {xs = xs} i e n) = keeps_constant t f xs w e n
each_keeps b u w (neutral_left {t = t} {x = x} {y = y} k e) = keeps_neutral_left t k x y w e
each_keeps b u w (neutral_right {t = t} {x = x} {y = y} k e) = keeps_neutral_right t k x y w e
each_keeps b u w (decided_left {t = t} {x = x} {y = y} k e) = keeps_decided_left t k x y w e
each_keeps b u w (decided_right {t = t} {x = x} {y = y} k e) = keeps_decided_right t k x y w e
each_keeps b u w (equal_sides {t = t} {x = x} k) = keeps_equal_sides t k x w
each_keeps b u w (unchanged_left {t = t} {a = a} {x = x} {y = y} e) = keeps_unchanged_left t a x y w e
each_keeps b u w (unchanged_right {t = t} {a = a} {x = x} {y = y} s e) = keeps_unchanged_right t a x y w s e
each_keeps b u w (null_left {t = t} {c = c} {x = x} {y = y} e) = keeps_null_left t c x y w e
each_keeps b u w (null_right {t = t} {c = c} {x = x} {y = y} e) = keeps_null_right t c x y w e
each_keeps b u w (null_within {t = t} {ls = ls} {us = us} {x = x} {l = l} {u = h} e) = keeps_null_within t ls us x l h w e
each_keeps b u w (null_bounds {t = t} {ls = ls} {us = us} {x = x} {l = l} {u = h} e f) = keeps_null_bounds t ls us x l h w e f
each_keeps b u w (null_list {t = t} {x = x} {y = y} e) = keeps_null_list t x y w e
each_keeps b u w (null_element {t = t} {x = x} {y = y} e) = keeps_null_element t x y w e
each_keeps b u w (in_nothing {t = t} {x = x} {y = y} e h) = keeps_in_nothing t x y w e h
each_keeps b u w (negated_twice {t = t} {p = p} {x = x}) = keeps_negated_twice t p x w
each_keeps b u w (null_denied {t = t} {p = p} {x = x}) = keeps_null_denied t p x w
each_keeps b u w (value_denied {t = t} {p = p} {x = x}) = keeps_value_denied t p x w
each_keeps b u w (own_cast {t = t} {v = v} {x = x} e) = keeps_own_cast t v x w e
each_keeps b u w (masked_nowhere {t = t} {x = x} {m = m} e) = keeps_masked_nowhere t x m w e
each_keeps b u w (begun {t = t} {u = v} {v = y} {x = x} {xs = xs} {p = p} {q = q} e) = keeps_begun t v y x xs p q w e
each_keeps b u w (never_null {t = t} {x = x} e) = keeps_never_null t x w e
each_keeps b u w (always_there {t = t} {x = x} e) = keeps_always_there t x w e
each_keeps b u w (fewer_pairs {t = t} {u = v} {pairs = pairs} {has_else = h} {c = c} {x = x} k l e) = keeps_fewer_pairs k t v pairs h c x w e

pub folds_keep : Keeping FoldAt
folds_keep b u w e = each_keeps b u w (folds b u e)
