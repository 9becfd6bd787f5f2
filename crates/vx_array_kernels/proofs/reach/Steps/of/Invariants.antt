use Rattle.std.proofs.Common.{◌≡◌, ◌++◌, List, length}
use denote.Text.{Utf8}
use denote.Shadow.{shadow}
use Rattle.vx_fn.specs.Values.{Part}
use Rattle.vx_eval_like.specs.Patterns.{characters, spelled_by}
use Rattle.vx_array_kernels.specs.Reach.{AreSteps}
use Rattle.vx_array_kernels.proofs.reach.Steps.of.Given as goal

-- the steps are those of what was read, and what is left to read makes it the whole pattern
abbrev pub invariant-loop-part : goal.invariant-loop-part
invariant-loop-part l = shadow (Utf8 l.rest) × ((read : List Part) × AreSteps l.ignore_case l.bytes read l.steps.items × (read ++ spelled_by l.ignore_case l.rest ≡ spelled_by l.ignore_case l.pattern))

abbrev pub decreases-loop-part : goal.decreases-loop-part
decreases-loop-part l = length (characters l.ignore_case l.rest)
