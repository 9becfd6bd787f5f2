-- Trees by their Ands.
use Rattle.std.proofs.Common.{◌≡◌, Bool, true, false, [], ◌∷◌, Some, None, refl, ap, ◌∙◌, filter}
use Rattle.std.specs.Prelude.{IsFalse, if◌then◌else◌}
use Rattle.vx_value.specs.Types.{LogicalType}
use Rattle.vx_fn.specs.Functions.{binary, and_also}
use Rattle.vx_tree.specs.Trees.{BoundTree, node, no_bound, bound}
use Rattle.vx_rewrite_fusing.specs.Conjuncts.{and_node, is_and, conjuncts}
use Rattle.vx_sql_plan.specs.Pushdown.{without}

-- the tree is its own only conjunct
pub record IsAlone (b : BoundTree) : Type 0 where
  pub conjuncts : conjuncts b ≡ b ∷ []
  pub left : (p : BoundTree → Bool) → without p b ≡ (if p b then None else Some b)

-- what holds of an And where it holds of both sides, and of each other tree, holds of all
pub by_ands : (P : BoundTree → Type 0) → ((t : LogicalType) (l r : BoundTree) → P l → P r → P (and_node t l r)) → ((b : BoundTree) → IsAlone b → P b) → (b : BoundTree) → P b
by_ands P both alone (node t (binary and_also) (bound l (bound r no_bound))) = both t l r (by_ands P both alone l) (by_ands P both alone r)
by_ands P both alone b = alone b (record { conjuncts = refl; left = λ p. refl })

-- and so is each tree that is no And
pub alone : (b : BoundTree) → IsFalse (is_and b) → IsAlone b
alone (node t (binary and_also) (bound l (bound r no_bound))) h = cc
alone b h = record { conjuncts = refl; left = λ p. refl }

-- ---- a tree that is alone, by the test

pub kept_alone : (p : BoundTree → Bool) (b : BoundTree) → IsAlone b → p b ≡ true → filter p (conjuncts b) ≡ b ∷ []
kept_alone p b h e = ap (filter p) h.conjuncts ∙ ap (λ t. if t then b ∷ [] else []) e

pub dropped_alone : (p : BoundTree → Bool) (b : BoundTree) → IsAlone b → p b ≡ false → filter p (conjuncts b) ≡ []
dropped_alone p b h e = ap (filter p) h.conjuncts ∙ ap (λ t. if t then b ∷ [] else []) e

pub none_left : (p : BoundTree → Bool) (b : BoundTree) → IsAlone b → p b ≡ true → without p b ≡ None
none_left p b h e = h.left p ∙ ap (λ t. if t then None else Some b) e

pub all_left : (p : BoundTree → Bool) (b : BoundTree) → IsAlone b → p b ≡ false → without p b ≡ Some b
all_left p b h e = h.left p ∙ ap (λ t. if t then None else Some b) e
