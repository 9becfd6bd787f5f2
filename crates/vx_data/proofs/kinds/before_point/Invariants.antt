use Rattle.std.proofs.Common.{◌≡◌, ◌+◌}
use Rattle.std.specs.Prelude.{drop}
use Rattle.vx_data.specs.Kinds.{before_point}
use Rattle.vx_data.proofs.kinds.before_point.Given as goal

abbrev pub invariant-loop-i : goal.invariant-loop-i
invariant-loop-i l = before_point l.digits ≡ l.i + before_point (drop l.i l.digits)
