-- Normal trees take no steps.
use Rattle.std.proofs.Common.{refl}
use Rattle.vx_tree.specs.Trees.{BoundTree}
use Rattle.vx_rewrite_core.proofs.Stepping.{no_step_left}
use Rattle.vx_rewrite_core.specs.Steps.{no_step, one_more}
use Rattle.vx_rewrite_core.specs.Laws.{NormalIsFinal}

pub final : (R : BoundTree → BoundTree → Type 0) → NormalIsFinal R
final R b _ _ n no_step = (refl, refl)
final R b _ _ n (one_more s r) = absurd (no_step_left R s n)
