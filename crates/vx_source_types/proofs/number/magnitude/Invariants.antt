use Rattle.std.proofs.Common.{◌≡◌, Some, drop}
use Rattle.vx_source_types.specs.Tokens.{magnitude}
use Rattle.vx_source_types.proofs.number.magnitude.Given as goal

abbrev pub invariant-loop-digit : goal.invariant-loop-digit
invariant-loop-digit l = magnitude l.value (drop l.digit-index l.digits) ≡ magnitude (Some 0) l.digits
