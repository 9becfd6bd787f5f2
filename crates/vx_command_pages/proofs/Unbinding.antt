-- The trees made so far, and then the rest without their types.
use Rattle.std.proofs.Common.{◌≡◌, ℕ, ◌+◌, ◌<◌, ◌≤◌, List, [], ◌∷◌, ◌++◌, length, get_or, drop, refl, sym, ap, ◌∙◌}
use Rattle.vx_dtype.proofs.Lists.{in_front, in_front-push, in_front-all}
use Rattle.vx_tree.specs.Trees.{Trees, no_tree, tree, unbound, unbound_each}
use Rattle.vx_tree.specs.Views.{tree_of, trees_of, bound_of, bounds_of}
use Rattle.vx_tree.specs.declared.bound.BoundExpression.{BoundExpression}
use Rattle.vx_tree.specs.declared.expression.Expression.{Expression}
use Rattle.vx_tree.proofs.Children.{bounds_next, bounds_end}

abbrev put : Expression → Trees → Trees
put e es = tree (tree_of e) es

-- the trees made are those of the first i, and what is left follows
abbrev pub UnboundSo : List Expression → List BoundExpression → ℕ → Type 0
UnboundSo made bs i = unbound_each (bounds_of bs) ≡ in_front put made (unbound_each (bounds_of (drop i bs)))

pub next : (made new : List Expression) (bs : List BoundExpression) (i : ℕ) (b : BoundExpression) (e : Expression) → i < length bs → b ≡ get_or bs i b
    → new ≡ made ++ e ∷ [] → tree_of e ≡ unbound (bound_of b) → UnboundSo made bs i → UnboundSo new bs (i + 1)
next made new bs i b e h is pushed same so_far =
    let rest = unbound_each (bounds_of (drop (i + 1) bs)) in
    so_far ∙ ap (in_front put made) (ap unbound_each (bounds_next bs i b h is) ∙ ap (λ t. tree t rest) (sym same)) ∙ sym (in_front-push put made e rest) ∙ ap (λ m. in_front put m rest) (sym pushed)

pub end : (made : List Expression) (bs : List BoundExpression) (i : ℕ) → length bs ≤ i → UnboundSo made bs i → trees_of made ≡ unbound_each (bounds_of bs)
end made bs i h so_far = sym (so_far ∙ ap (in_front put made) (ap unbound_each (bounds_end bs i h)) ∙ in_front-all put no_tree trees_of refl (λ x xs. refl) made)
