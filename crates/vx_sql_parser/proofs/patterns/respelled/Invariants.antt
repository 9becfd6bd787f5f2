use Rattle.std.proofs.Common.{◌≡◌, drop, false}
use Rattle.vx_sql_parser.specs.Patterns.{behind, respelled}
use Rattle.vx_sql_parser.proofs.patterns.respelled.Given as goal

abbrev pub invariant-loop-c : goal.invariant-loop-c
invariant-loop-c l = behind l.made.items (respelled l.escape l.escaped (drop l.c-index l.pattern)) ≡ respelled l.escape false l.pattern
