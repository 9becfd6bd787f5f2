-- Where characters begin.
use Rattle.std.proofs.Common.{List, ℕ}
use Rattle.std.specs.Str.{IsUtf8, IsCharBoundary}
use Rattle.std.proofs.lemmas.Str.{IsCharBoundary-start}

pub begins : (bs : List ℕ) → IsUtf8 bs → IsCharBoundary bs 0
begins bs h = IsCharBoundary-start bs h
