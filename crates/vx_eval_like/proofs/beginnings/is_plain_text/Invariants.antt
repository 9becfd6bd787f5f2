use Rattle.std.proofs.Common.{◌≡◌, false, length, chars}
use Rattle.std.specs.List.{list_all}
use denote.Text.{Utf8}
use denote.Shadow.{shadow}
use Rattle.vx_eval_like.specs.Beginnings.{stands_for_itself}
use Rattle.vx_eval_like.specs.Patterns.{characters}
use Rattle.vx_eval_like.proofs.beginnings.is_plain_text.Given as goal

abbrev pub invariant-loop-c : goal.invariant-loop-c
invariant-loop-c l = shadow (Utf8 l.rest) × (list_all stands_for_itself (chars l.rest) ≡ list_all stands_for_itself (chars l.text))

abbrev pub decreases-loop-c : goal.decreases-loop-c
decreases-loop-c l = length (characters false l.rest)
