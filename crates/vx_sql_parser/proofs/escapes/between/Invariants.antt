use Rattle.std.proofs.Common.{◌≡◌, ◌≤◌, ◌-◌, length, drop}
use Rattle.vx_source_types.specs.Tokens.{after_bytes}
use Rattle.vx_sql.specs.Quotes.{anywhere}
use Rattle.vx_sql_parser.specs.SqlTokens.{escaped_read}
use Rattle.vx_sql_parser.specs.Views.{reading_of}
use Rattle.vx_sql_parser.proofs.escapes.between.Given as goal

abbrev pub invariant-loop-at : goal.invariant-loop-at
invariant-loop-at l =
    (l.at ≤ length l.bytes) × (after_bytes l.made.items (escaped_read l.doubled (reading_of l.inside) (drop l.at l.bytes)) ≡ escaped_read l.doubled anywhere l.bytes)

abbrev pub decreases-loop-at : goal.decreases-loop-at
decreases-loop-at l = length l.initial.bytes - l.at
