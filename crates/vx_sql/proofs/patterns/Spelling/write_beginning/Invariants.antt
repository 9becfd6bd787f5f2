use Rattle.std.proofs.Common.{◌≡◌, List, ℕ, ◌++◌, length, false}
use denote.Text.{Utf8}
use denote.Shadow.{shadow}
use Rattle.std.specs.Fmt.{HasWritten, IsPlainFormatter}
use Rattle.std.specs.List.{flat_map}
use Rattle.std.specs.Prelude.{encode_utf8_all}
use Rattle.vx_eval_like.specs.Patterns.{characters}
use Rattle.vx_sql.specs.Patterns.{beginning_parts, parts_spelled}
use Rattle.vx_sql.specs.Quotes.{inside}
use Rattle.vx_sql.proofs.patterns.Spelling.write_beginning.Given as goal

abbrev pub invariant-loop-c : goal.invariant-loop-c
invariant-loop-c g l =
    shadow (Utf8 l.rest) × (IsPlainFormatter l.initial.f →
    (done : List ℕ) × HasWritten g.W.Write.write_str_gives l.initial.f done l.f
    × (done ++ encode_utf8_all (flat_map (inside l.self.quoting) (parts_spelled l.self.dialect l.self.ignore_case (beginning_parts l.rest)))
    ≡ encode_utf8_all (flat_map (inside l.self.quoting) (parts_spelled l.self.dialect l.self.ignore_case (beginning_parts l.text)))))

abbrev pub decreases-loop-c : goal.decreases-loop-c
decreases-loop-c g l = length (characters false l.rest)
