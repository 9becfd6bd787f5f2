-- The first text so far is that of a number.
use Rattle.std.proofs.Common.{IfSome, string_bytes}
use Rattle.vx_commands.specs.Guesses.{IsNumberText}
use Rattle.vx_commands.proofs.number_texts.seen_texts.Given as goal

abbrev pub invariant-loop : goal.invariant-loop
invariant-loop g l = IfSome l.first (λ text. IsNumberText (string_bytes text))
