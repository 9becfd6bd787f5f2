-- Laws of steps.
use Rattle.std.specs.Prelude.{◌≡◌, ℕ, ◌+◌, ◌≤◌}
use Rattle.vx_tree.specs.Trees.{BoundTree, WellTyped}
use Rattle.vx_rewrite_core.specs.Keeps.{Keeps}
use Rattle.vx_rewrite_core.specs.Steps.{Steps, Normal}
use Rattle.vx_rewrite_core.specs.Weights.{weight}

-- what steps of R lead to keeps the tree, and each of them takes some of its weight
abbrev pub StepsKeep : (BoundTree → BoundTree → Type 0) → Type 0
StepsKeep R = (b u : BoundTree) (n : ℕ) → WellTyped b → Steps R b n u → Keeps b u × (n + weight u ≤ weight b)

-- where R gives nothing at any node no step leads on
abbrev pub NormalIsFinal : (BoundTree → BoundTree → Type 0) → Type 0
NormalIsFinal R = (b u : BoundTree) (n : ℕ) → Normal R b → Steps R b n u → (n ≡ 0) × (u ≡ b)
