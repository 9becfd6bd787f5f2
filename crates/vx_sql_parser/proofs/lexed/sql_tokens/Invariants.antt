use Rattle.std.proofs.Common.{◌≡◌, ◌≤◌, ◌-◌, ◌++◌, length, drop}
use Rattle.vx_sql_parser.specs.SqlTokens.{sql_tokens}
use Rattle.vx_sql_parser.specs.Views.{lexemes_of}
use Rattle.vx_sql_parser.proofs.lexed.sql_tokens.Given as goal

abbrev pub invariant-loop-at : goal.invariant-loop-at
invariant-loop-at l = (l.at ≤ length l.text) × (lexemes_of l.tokens.items ++ sql_tokens l.dialect 0 (drop l.at l.text) ≡ sql_tokens l.dialect 0 l.text)

abbrev pub decreases-loop-at : goal.decreases-loop-at
decreases-loop-at l = length l.initial.text - l.at
