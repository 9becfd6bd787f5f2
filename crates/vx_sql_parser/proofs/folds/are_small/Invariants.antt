use Rattle.std.proofs.Common.{◌≡◌, drop, not}
use Rattle.std.specs.Char.{is_ascii_uppercase}
use Rattle.std.specs.List.{list_all}
use Rattle.vx_sql_parser.proofs.folds.are_small.Given as goal

abbrev pub invariant-loop-b : goal.invariant-loop-b
invariant-loop-b l = list_all (λ c. not (is_ascii_uppercase c)) (drop l.b-index l.bytes) ≡ list_all (λ c. not (is_ascii_uppercase c)) l.bytes
