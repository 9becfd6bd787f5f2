-- What a rule gives is lighter.
use Rattle.std.proofs.Common.{◌≡◌, inl, inr, ◌+◌, ◌*◌, ◌<◌, ◌≤◌, List, [], ◌∷◌, refl, ap, Bool, true, false, length, arith}
use Rattle.std.specs.Prelude.{Option, Some, None, if◌then◌else◌}
use Rattle.vx_rewrite_core.proofs.Children.{IsChild}
use Rattle.vx_rewrite_rule_laws.proofs.Named.{named-child}
use Rattle.vx_rewrite_rule_laws.proofs.SelectLaws.{selected_is}
use Rattle.vx_value.specs.Types.{Name}
use Rattle.vx_value.specs.Fields.{field_count}
use Rattle.vx_fn.specs.Functions.{included}
use Rattle.vx_tree.specs.Trees.{BoundTree, BoundTrees, no_bound, bound, WellTyped}
use Rattle.vx_rewrite_rule_laws.specs.Rules.{child_named, put_child, children_named, null_first, null_last, RuleAt, fill_of_not_null, coalesce_to_null, coalesce, item_of_pack, item_of_nullable_pack, zip_chosen, zip_cast, select_none, select_none_of_pack, select_of_pack}
use Rattle.vx_rewrite_core.specs.Weights.{weight, weights}

child-weight : (x : BoundTree) (xs : BoundTrees) → IsChild x xs → weight x ≤ weights xs
child-weight x no_bound i = elim i [ ]
child-weight x (bound y ys) (inl e) = let q : weight x ≡ weight y = ap weight e in omega arith
child-weight x (bound y ys) (inr i) = let h = child-weight x ys i in omega (arith, h)

chosen-weight : (c : Bool) (x y : BoundTree) → weight (if c then x else y) ≤ weight x + weight y
chosen-weight true x y = omega arith
chosen-weight false x y = omega arith

picked-weight : (wanted names : List Name) (xs : BoundTrees) → weights (children_named wanted names xs) ≤ length wanted * weights xs
picked-weight [] names xs = omega arith
picked-weight (a ∷ wanted) names xs = go (child_named a names xs) refl (picked-weight wanted names xs)
  where
    go : (o : Option BoundTree) → child_named a names xs ≡ o → weights (children_named wanted names xs) ≤ length wanted * weights xs → weights (put_child o (children_named wanted names xs)) ≤ length (a ∷ wanted) * weights xs
    go None e h = omega arith
    go (Some x) e h = let k : weight x ≤ weights xs = child-weight x xs (named-child a names xs x e) in omega arith

pub rule_lightens : (b u : BoundTree) → WellTyped b → RuleAt b u → weight u < weight b
rule_lightens b u w (fill_of_not_null e) = omega arith
rule_lightens b u w (coalesce_to_null null_first) = omega arith
rule_lightens b u w (coalesce_to_null null_last) = omega arith
rule_lightens b u w (coalesce null_first e p) = omega arith
rule_lightens b u w (coalesce null_last e p) = omega arith
rule_lightens b u w (item_of_pack {a = a} {names = names} {xs = xs} {x = x} e) = let h = child-weight x xs (named-child a names xs x e) in omega (arith, h)
rule_lightens b u w (item_of_nullable_pack {a = a} {names = names} {xs = xs} {x = x} e) = let h = child-weight x xs (named-child a names xs x e) in omega (arith, h)
rule_lightens b u w (zip_chosen {c = c} {x = x} {y = y} e) = let h = chosen-weight c x y in omega (arith, h)
rule_lightens b u w (zip_cast {c = c} {x = x} {y = y} e) = let h = chosen-weight c x y in omega (arith, h)
rule_lightens b u w (select_none q e) = omega arith
rule_lightens b u w (select_none_of_pack e) = omega arith
rule_lightens b u w (select_of_pack {gs = gs} {selection = sel} {fs = fs} {n = n} {names = names} {xs = xs} e h) =
    let k = picked-weight (included sel fs) names xs in
    let q : field_count gs ≡ length (included sel fs) = selected_is gs sel fs n names xs w in
    let r : weights (children_named (included sel fs) names xs) ≤ field_count gs * weights xs = rw q k in
    omega (arith, r)
