use Rattle.std.proofs.Common.{◌≡◌, drop}
use Rattle.vx_sql.specs.Reasons.{names_reason}
use Rattle.vx_sql.proofs.reasons.names_reason.Given as goal

abbrev pub invariant-loop-i : goal.invariant-loop-i
invariant-loop-i l = names_reason l.dialect l.all (drop l.i l.names) ≡ names_reason l.dialect l.all l.names
