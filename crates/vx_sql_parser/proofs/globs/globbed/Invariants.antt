-- What is made is what stands before the rest.
use Rattle.std.proofs.Common.{◌≡◌, length}
use Rattle.vx_sql_parser.specs.Globs as globs
use Rattle.vx_sql_parser.specs.Patterns.{behind}
use Rattle.vx_sql_parser.proofs.globs.globbed.Given as goal

abbrev pub invariant-loop-rest : goal.invariant-loop-rest
invariant-loop-rest l = behind l.made.items (globs.globbed l.ignores l.rest) ≡ globs.globbed l.ignores l.pattern

abbrev pub decreases-loop-rest : goal.decreases-loop-rest
decreases-loop-rest l = length l.rest
