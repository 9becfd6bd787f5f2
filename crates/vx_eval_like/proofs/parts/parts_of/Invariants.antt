use Rattle.std.proofs.Common.{◌≡◌, ◌++◌, length}
use denote.Text.{Utf8}
use denote.Shadow.{shadow}
use Rattle.vx_eval_like.specs.Patterns.{characters, parts_view, spelled_by}
use Rattle.vx_eval_like.proofs.parts.parts_of.Given as goal

-- what was read, and what is left to read, are the parts of the whole pattern
abbrev pub invariant-loop-part : goal.invariant-loop-part
invariant-loop-part l = shadow (Utf8 l.rest)
    × (parts_view l.read.items ++ spelled_by l.ignore_case l.rest ≡ spelled_by l.ignore_case l.pattern)

abbrev pub decreases-loop-part : goal.decreases-loop-part
decreases-loop-part l = length (characters l.ignore_case l.rest)
