use Rattle.std.proofs.Common.{◌≡◌, ◌≤◌, ◌-◌, length, drop}
use Rattle.vx_sql_parser.specs.SqlTokens.{closing}
use Rattle.vx_sql_parser.proofs.CommentEnds.{later}
use Rattle.vx_sql_parser.proofs.comments.closing.Given as goal

abbrev pub invariant-loop-at : goal.invariant-loop-at
invariant-loop-at l = (l.at ≤ length l.bytes) × (later l.at (closing l.before (drop l.at l.bytes)) ≡ closing 0 l.bytes)

abbrev pub decreases-loop-at : goal.decreases-loop-at
decreases-loop-at l = length l.initial.bytes - l.at
