use Rattle.std.proofs.Common.{◌≡◌, ◌+◌, ◌^◌, ◌<◌}
use Rattle.std.specs.Prelude.{drop}
use Rattle.vx_literals.specs.Digits.{digits_behind}
use Rattle.vx_literals.proofs.digits.digits_behind.Given as goal

abbrev pub invariant-loop-i : goal.invariant-loop-i
invariant-loop-i l = (digits_behind l.read (drop l.i l.bytes) ≡ digits_behind l.number l.bytes) × (l.read < 10 ^ (l.before + l.i))
