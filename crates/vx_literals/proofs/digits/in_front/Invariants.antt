use Rattle.std.proofs.Common.{◌≡◌, ◌+◌}
use Rattle.std.specs.Prelude.{drop}
use Rattle.std.specs.List.{prefix_len}
use Rattle.vx_literals.specs.Digits.{is_within}
use Rattle.vx_literals.proofs.digits.in_front.Given as goal

abbrev pub invariant-loop-i : goal.invariant-loop-i
invariant-loop-i l = prefix_len (is_within l.low l.high) l.bytes ≡ l.i + prefix_len (is_within l.low l.high) (drop l.i l.bytes)
