use Rattle.std.proofs.Common.{◌≡◌, ◌-◌, length, drop}
use Rattle.vx_sql_parser.specs.Rules.{sql_source}
use Rattle.vx_sql_parser.specs.RuleViews.{with_tokens}
use Rattle.vx_sql_parser.specs.Views.{lexemes_of}
use Rattle.vx_sql_parser.proofs.source.source_of.Given as goal

abbrev pub invariant-loop-i : goal.invariant-loop-i
invariant-loop-i l = with_tokens l.translation (lexemes_of (drop l.i l.tokens)) ≡ sql_source l.fn.dialect l.text

abbrev pub decreases-loop-i : goal.decreases-loop-i
decreases-loop-i l = length l.initial.tokens - l.i
