use Rattle.std.proofs.Common.{◌≡◌, ◌≤◌, ◌∷◌, List, length}
use denote.Text.{Utf8}
use denote.Shadow.{shadow}
use Rattle.vx_fn.specs.Values.{Part, matches, some_rest}
use Rattle.vx_eval_like.specs.Patterns.{characters, part_view}
use Rattle.vx_eval_like.proofs.walk.from_first_taken.Given as goal

-- no match begins at what lies before what is left
abbrev pub invariant-loop-c : goal.invariant-loop-c
invariant-loop-c l = shadow (Utf8 l.left)
    × ((ps : List Part) → some_rest (matches (part_view l.part ∷ ps)) (characters l.ignore_case l.left) ≡ some_rest (matches (part_view l.part ∷ ps)) (characters l.ignore_case l.text))
    × (length (characters l.ignore_case l.left) ≤ length (characters l.ignore_case l.text))

abbrev pub decreases-loop-c : goal.decreases-loop-c
decreases-loop-c l = length (characters l.ignore_case l.left)
