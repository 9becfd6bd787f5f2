-- The pairs of a CASE without those whose condition never holds, as one case for each pair: it stays, or is left out.
use Rattle.std.proofs.Common.{◌≡◌, ℕ, ◌+◌, refl, Bool, true, false}
use Rattle.std.specs.Prelude.{if◌then◌else◌}
use Rattle.vx_tree.specs.Trees.{BoundTree, BoundTrees, no_bound, bound}
use Rattle.vx_rewrite_rule_laws.specs.Folding.{is_idle, idle_pairs, without_idle}

-- of these pairs those are kept, and so many aren't
pub data Without : BoundTrees → BoundTrees → ℕ → Type 0 where
  no_pair : Without no_bound no_bound 0
  else_alone : {x : BoundTree} → Without (bound x no_bound) (bound x no_bound) 0
  left_out : {c x : BoundTree} {rest kept : BoundTrees} {n : ℕ} → is_idle c ≡ true → Without rest kept n → Without (bound c (bound x rest)) kept (n + 1)
  stays : {c x : BoundTree} {rest kept : BoundTrees} {n : ℕ} → Without rest kept n → Without (bound c (bound x rest)) (bound c (bound x kept)) n

pub without : (rest : BoundTrees) → Without rest (without_idle rest) (idle_pairs rest)
without no_bound = no_pair
without (bound x no_bound) = else_alone
without (bound c (bound x rest)) = go (is_idle c) refl (without rest)
  where
    go : (b : Bool) → is_idle c ≡ b → Without rest (without_idle rest) (idle_pairs rest) → Without (bound c (bound x rest)) (if b then without_idle rest else bound c (bound x (without_idle rest))) (if b then idle_pairs rest + 1 else idle_pairs rest)
    go true e k = left_out e k
    go false e k = stays k
