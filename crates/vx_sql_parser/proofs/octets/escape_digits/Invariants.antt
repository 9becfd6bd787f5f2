-- The digits made are those before the rest.
use Rattle.std.proofs.Common.{◌≡◌, length, codes}
use Rattle.vx_sql_parser.specs.Patterns.{behind}
use Rattle.vx_sql_parser.specs.Values as values
use Rattle.vx_sql_parser.proofs.octets.escape_digits.Given as goal

abbrev pub invariant-loop-rest : goal.invariant-loop-rest
invariant-loop-rest l = behind l.made.items (values.escape_digits l.rest) ≡ behind (codes "0x") (values.escape_digits l.text)

abbrev pub decreases-loop-rest : goal.decreases-loop-rest
decreases-loop-rest l = length l.rest
