use Rattle.std.proofs.Common.{◌≡◌, List, ℕ, ◌++◌, length}
use denote.Text.{Utf8}
use denote.Shadow.{shadow}
use Rattle.std.specs.Fmt.{HasWritten, IsPlainFormatter}
use Rattle.std.specs.List.{flat_map}
use Rattle.std.specs.Prelude.{encode_utf8_all}
use Rattle.vx_eval_like.specs.Patterns.{characters, spelled_by}
use Rattle.vx_sql.specs.Patterns.{parts_spelled}
use Rattle.vx_sql.specs.Quotes.{inside}
use Rattle.vx_sql.proofs.patterns.Spelling.write_parts.Given as goal

abbrev pub invariant-loop-part : goal.invariant-loop-part
invariant-loop-part g l =
    shadow (Utf8 l.rest) × (IsPlainFormatter l.initial.f →
    (done : List ℕ) × HasWritten g.W.Write.write_str_gives l.initial.f done l.f
    × (done ++ encode_utf8_all (flat_map (inside l.self.quoting) (parts_spelled l.self.dialect l.self.ignore_case (spelled_by l.self.ignore_case l.rest)))
    ≡ encode_utf8_all (flat_map (inside l.self.quoting) (parts_spelled l.self.dialect l.self.ignore_case (spelled_by l.self.ignore_case l.pattern)))))

abbrev pub decreases-loop-part : goal.decreases-loop-part
decreases-loop-part g l = length (characters l.self.ignore_case l.rest)
