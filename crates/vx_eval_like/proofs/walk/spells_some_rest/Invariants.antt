use Rattle.std.proofs.Common.{◌≡◌, ◌+◌, length}
use denote.Text.{Utf8}
use denote.Shadow.{shadow}
use Rattle.vx_fn.specs.Values.{matches, some_rest}
use Rattle.vx_eval_like.specs.Patterns.{characters, parts_view}
use Rattle.vx_eval_like.proofs.walk.spells_some_rest.Given as goal

-- the parts ahead decide what the parts decide
abbrev pub invariant-loop-first : goal.invariant-loop-first
invariant-loop-first l = shadow (Utf8 l.begin)
    × (some_rest (matches (parts_view l.ahead)) (characters l.ignore_case l.begin) ≡ some_rest (matches (parts_view l.parts)) (characters l.ignore_case l.text))

abbrev pub decreases-loop-first : goal.decreases-loop-first
decreases-loop-first l = length l.ahead + length (characters l.ignore_case l.begin)
