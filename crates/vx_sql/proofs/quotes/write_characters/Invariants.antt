use Rattle.std.proofs.Common.{◌≡◌, List, ℕ, ◌++◌, length}
use denote.Text.{Utf8}
use denote.Shadow.{shadow}
use Rattle.std.specs.Fmt.{HasWritten, IsPlainFormatter}
use Rattle.std.specs.List.{flat_map}
use Rattle.std.specs.Prelude.{chars, encode_utf8_all}
use Rattle.vx_sql.specs.Quotes.{inside}
use Rattle.vx_sql.proofs.quotes.write_characters.Given as goal

abbrev pub invariant-loop-c : goal.invariant-loop-c
invariant-loop-c g l =
    shadow (Utf8 l.rest) × (IsPlainFormatter l.initial.f →
    (done : List ℕ) × HasWritten g.W.Write.write_str_gives l.initial.f done l.f
    × (done ++ encode_utf8_all (flat_map (inside l.quoting) (chars l.rest)) ≡ encode_utf8_all (flat_map (inside l.quoting) (chars l.text))))

abbrev pub decreases-loop-c : goal.decreases-loop-c
decreases-loop-c g l = length (chars l.rest)
