-- The standard rules are modest: their new children come from below the root.
use Rattle.std.proofs.Common.{◌≡◌, List, [], ◌∷◌, refl, Bool, true, false}
use Rattle.std.specs.Prelude.{Option, Some, None, if◌then◌else◌}
use Rattle.vx_value.specs.Types.{Name, LogicalType}
use Rattle.vx_fn.specs.Functions.{Function, included}
use Rattle.vx_tree.specs.Trees.{BoundTree, node, BoundTrees, no_bound, bound}
use Rattle.vx_tree.specs.Nodes.{bound_children_of}
use Rattle.vx_rewrite_core.specs.Steps.{GivesNothing}
use Rattle.vx_rewrite_rule_laws.proofs.Named.{named-child}
use Rattle.vx_rewrite_rule_laws.specs.Rules.{child_named, put_child, children_named, null_first, null_last, RuleAt, fill_of_not_null, coalesce_to_null, coalesce, item_of_pack, item_of_nullable_pack, zip_chosen, zip_cast, select_none, select_none_of_pack, select_of_pack}
use Rattle.vx_rewrite_core.specs.FromSubterms.{Inside, at_first, in_first, in_rest, IsLiteral, is_literal, EachFrom, from_none, from_inside, from_literal, FromSubterms}
use Rattle.vx_rewrite_core.proofs.Inside.{below_inside, child-inside}

-- the children of a packed child
item-inside : (a : Name) (names : List Name) (t : LogicalType) (f : Function) (xs : BoundTrees) (x : BoundTree) → child_named a names xs ≡ Some x → Inside x (bound (node t f xs) no_bound)
item-inside a names t f xs x e = in_first (child-inside x xs (named-child a names xs x e))

picked-from : (t : LogicalType) (f : Function) (wanted names : List Name) (xs : BoundTrees) → EachFrom (bound (node t f xs) no_bound) (children_named wanted names xs)
picked-from t f [] names xs = from_none
picked-from t f (a ∷ wanted) names xs = go (child_named a names xs) refl (picked-from t f wanted names xs)
  where
    go : (o : Option BoundTree) → child_named a names xs ≡ o → EachFrom (bound (node t f xs) no_bound) (children_named wanted names xs) → EachFrom (bound (node t f xs) no_bound) (put_child o (children_named wanted names xs))
    go None e k = k
    go (Some x) e k = from_inside (item-inside a names t f xs x e) k

chosen-inside : (c : Bool) (x y m : BoundTree) → Inside (if c then x else y) (bound x (bound y (bound m no_bound)))
chosen-inside true x y m = at_first
chosen-inside false x y m = in_rest at_first

rule_from : (b u : BoundTree) → RuleAt b u → EachFrom (bound_children_of b) (bound_children_of u)
rule_from b u (fill_of_not_null {x = x} e) = below_inside x _ at_first
rule_from b u (coalesce_to_null {x = x} null_first) = below_inside x _ (in_rest (in_rest at_first))
rule_from b u (coalesce_to_null {x = x} null_last) = below_inside x _ (in_rest at_first)
rule_from b u (coalesce null_first e p) = from_inside (in_rest (in_rest at_first)) (from_literal is_literal from_none)
rule_from b u (coalesce null_last e p) = from_inside (in_rest at_first) (from_literal is_literal from_none)
rule_from b u (item_of_pack {a = a} {names = names} {xs = xs} {x = x} e) = below_inside x _ (item-inside a names _ _ xs x e)
rule_from b u (item_of_nullable_pack {a = a} {names = names} {xs = xs} {x = x} e) = from_inside (item-inside a names _ _ xs x e) (from_literal is_literal from_none)
rule_from b u (zip_chosen {c = c} {x = x} {y = y} e) = below_inside (if c then x else y) _ (chosen-inside c x y _)
rule_from b u (zip_cast {c = c} {x = x} {y = y} e) = from_inside (chosen-inside c x y _) from_none
rule_from b u (select_none q e) = from_none
rule_from b u (select_none_of_pack e) = from_none
rule_from b u (select_of_pack {selection = s} {fs = fs} {names = names} {xs = xs} e h) = picked-from _ _ (included s fs) names xs

rule_at_literals : (b : BoundTree) → IsLiteral b → GivesNothing RuleAt b
rule_at_literals b l u r = none r l
  where
    none : {b u : BoundTree} → RuleAt b u → IsLiteral b → ⊥
    none (fill_of_not_null h) l = elim l [ ]
    none (coalesce_to_null null_first) l = elim l [ ]
    none (coalesce_to_null null_last) l = elim l [ ]
    none (coalesce null_first h p) l = elim l [ ]
    none (coalesce null_last h p) l = elim l [ ]
    none (item_of_pack h) l = elim l [ ]
    none (item_of_nullable_pack h) l = elim l [ ]
    none (zip_chosen h) l = elim l [ ]
    none (zip_cast h) l = elim l [ ]
    none (select_none q h) l = elim l [ ]
    none (select_none_of_pack h) l = elim l [ ]
    none (select_of_pack h g) l = elim l [ ]

pub rules_modest : FromSubterms RuleAt
rules_modest = record { from = rule_from; at_literals = rule_at_literals }
