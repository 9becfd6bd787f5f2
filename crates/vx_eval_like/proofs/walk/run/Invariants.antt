use Rattle.std.proofs.Common.{length}
use denote.Text.{Utf8}
use denote.Shadow.{shadow}
use Rattle.vx_eval_like.specs.Patterns.{characters, parts_view}
use Rattle.vx_eval_like.specs.Walks.{Reaches}
use Rattle.vx_eval_like.proofs.walk.run.Given as goal

abbrev pub invariant-loop-part : goal.invariant-loop-part
invariant-loop-part l = shadow (Utf8 l.left)
    × Reaches (parts_view l.parts) (characters l.ignore_case l.text) (parts_view l.ahead) (characters l.ignore_case l.left)

abbrev pub decreases-loop-part : goal.decreases-loop-part
decreases-loop-part l = length l.ahead
