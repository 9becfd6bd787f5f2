-- What the row `fused` shows: the bounds of the row `kleene` as one range.
use Rattle.std.specs.Prelude.{◌≡◌, ℕ, Ok}
use Rattle.vx_tree.specs.Binding.{binding}
use Rattle.vx_tree.specs.Trees.{BoundTree}
use Rattle.vx_tree.specs.WorkedRows.{fused_range_of_x}
use Rattle.vx_rewrite_fusing.specs.Conjuncts.{Fused}
use Rattle.vx_rewrite_fusing.specs.Merging.{Merges}
use Rattle.vx_run.specs.Kleene.{kleene}
use Rattle.vx_run.specs.Samples.{Sample}

-- `null <= $.x <= 5` over the rows of `kleene`
abbrev pub fused : Sample
fused = record { source = fused_range_of_x; batch = kleene.batch }

-- it is what merging leaves of `kleene`: bound to the rows' type, the tree reached by merge after merge until there is no pair left is this one
abbrev pub FusedIsKleeneMerged : Type 0
FusedIsKleeneMerged = (b u : BoundTree) (n : ℕ) → binding kleene.source kleene.batch.type ≡ Ok b → Merges b n u → Fused u → binding fused.source fused.batch.type ≡ Ok u
