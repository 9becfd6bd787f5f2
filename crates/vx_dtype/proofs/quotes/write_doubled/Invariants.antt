use Rattle.std.proofs.Common.{◌≡◌, List, ℕ, ◌++◌, length}
use denote.Text.{Utf8}
use denote.Shadow.{shadow}
use Rattle.std.specs.Fmt.{HasWritten, IsPlainFormatter}
use Rattle.vx_dtype.specs.Quotes.{doubled}
use Rattle.vx_dtype.proofs.quotes.write_doubled.Given as goal

abbrev pub invariant-loop-front : goal.invariant-loop-front
invariant-loop-front g l =
    shadow (Utf8 l.rest) × (IsPlainFormatter l.initial.f →
    (before : List ℕ) × HasWritten g.W.Write.write_str_gives l.initial.f before l.f × (before ++ doubled l.quote l.rest ≡ doubled l.quote l.text))

abbrev pub decreases-loop-front : goal.decreases-loop-front
decreases-loop-front g l = length l.rest
