-- The partitions made so far, and then the rest.
use Rattle.std.proofs.Common.{◌≡◌, ◌⊎◌, inl, inr, ℕ, ◌+◌, ◌<◌, ◌≤◌, List, [], ◌∷◌, ◌++◌, length, get_or, drop, drop_of_length-le, Bor, arith, refl, sym, ap, ◌∙◌}
use Rattle.std.specs.Prelude.{min}
use Rattle.std.proofs.Math.Nat.{min-eq_left, min_comm}
use Rattle.std.proofs.lemmas.Bool.{cases_lt}
use Rattle.std.proofs.lemmas.List.{length-append}
use Rattle.serde_json.specs.Data.{Items, no_items, item}
use Rattle.serde_json.specs.View.{view, items_view}
use Rattle.serde_json.specs.declared.value.Value.{Value}
use Rattle.vx_dtype.proofs.Lists.{drop_next, in_front, in_front-push, in_front-all}
use Rattle.vx_value.specs.Types.{Name}
use Rattle.vx_tree.specs.Trees.{no_bound}
use Rattle.vx_tree.specs.Views.{bound_of, bounds_of}
use Rattle.vx_tree.specs.declared.bound.BoundExpression.{BoundExpression}
use Rattle.vx_tree.proofs.Children.{bounds_next, bounds_end}
use Rattle.vx_command_pages.specs.PlanData.{partition_data, partition_items}

abbrev put : Value → Items → Items
put v ds = item (view v) ds

-- what is left from the i-th on
abbrev rest_of : List Name → List BoundExpression → ℕ → Items
rest_of names trees i = partition_items (drop i names) (bounds_of (drop i trees))

-- the values made are those of the first i, and what is left follows
abbrev pub PartitionedSo : List Value → List Name → List BoundExpression → ℕ → Type 0
PartitionedSo made names trees i = partition_items names (bounds_of trees) ≡ in_front put made (rest_of names trees i)

step : (names : List Name) (trees : List BoundExpression) (i : ℕ) (a : Name) (b : BoundExpression) → i < length names → a ≡ get_or names i a
    → i < length trees → b ≡ get_or trees i b → rest_of names trees i ≡ item (partition_data a (bound_of b)) (rest_of names trees (i + 1))
step names trees i a b h is k it =
    ap (λ ns. partition_items ns (bounds_of (drop i trees))) (drop_next names i a h is) ∙ ap (partition_items (a ∷ drop (i + 1) names)) (bounds_next trees i b k it)

next_at : (made new : List Value) (names : List Name) (trees : List BoundExpression) (i : ℕ) (a : Name) (b : BoundExpression) (v : Value)
    → i < length names → a ≡ get_or names i a → i < length trees → b ≡ get_or trees i b
    → new ≡ made ++ v ∷ [] → view v ≡ partition_data a (bound_of b) → PartitionedSo made names trees i → PartitionedSo new names trees (i + 1)
next_at made new names trees i a b v h is k it pushed same so_far =
    let rest = rest_of names trees (i + 1) in
    so_far ∙ ap (in_front put made) (step names trees i a b h is k it ∙ ap (λ d. item d rest) (sym same)) ∙ sym (in_front-push put made v rest) ∙ ap (λ m. in_front put m rest) (sym pushed)

-- the same after one more turn of a loop over both
pub next : (made new : List Value) (names : List Name) (trees : List BoundExpression) (yielded : List (Bor Name × Bor BoundExpression)) (p : Bor Name × Bor BoundExpression) (v : Value)
    → (length yielded < length names) × (length yielded < length trees) × ((d : Name) → p.0.now ≡ get_or names (length yielded) d) × ((d : BoundExpression) → p.1.now ≡ get_or trees (length yielded) d)
    → new ≡ made ++ v ∷ [] → view v ≡ partition_data p.0.now (bound_of p.1.now) → PartitionedSo made names trees (length yielded) → PartitionedSo new names trees (length (yielded ++ p ∷ []))
next made new names trees yielded p v turn pushed same so_far =
    rw (length-append yielded (p ∷ [])) (next_at made new names trees (length yielded) p.0.now p.1.now v turn.0 (turn.2 p.0.now) turn.1 (turn.3 p.1.now) pushed same so_far)

no_trees : (names : List Name) → partition_items names no_bound ≡ no_items
no_trees [] = refl
no_trees (a ∷ names) = refl

nothing_left : (names : List Name) (trees : List BoundExpression) (i : ℕ) → (length names ≤ i) ⊎ (length trees ≤ i) → rest_of names trees i ≡ no_items
nothing_left names trees i (inl h) = ap (λ ns. partition_items ns (bounds_of (drop i trees))) (drop_of_length-le names h)
nothing_left names trees i (inr h) = ap (partition_items (drop i names)) (bounds_end trees i h) ∙ no_trees (drop i names)

over_by_cases : (m n i : ℕ) → i ≡ min m n → (m < n) ⊎ (n ≤ m) → (m ≤ i) ⊎ (n ≤ i)
over_by_cases m n i e (inl h) =
    let below : m ≤ n = omega arith in
    let least : min m n ≡ m = min-eq_left below in
    inl (omega arith)
over_by_cases m n i e (inr h) =
    let least : min n m ≡ n = min-eq_left h in
    let turned : min m n ≡ min n m = min_comm m n in
    inr (omega arith)

pub end : (made : List Value) (names : List Name) (trees : List BoundExpression) (i : ℕ) → i ≡ min (length names) (length trees)
    → PartitionedSo made names trees i → items_view made ≡ partition_items names (bounds_of trees)
end made names trees i over so_far =
    sym (so_far ∙ ap (in_front put made) (nothing_left names trees i (over_by_cases (length names) (length trees) i over (cases_lt (length names) (length trees)))) ∙ in_front-all put no_items items_view refl (λ x xs. refl) made)
