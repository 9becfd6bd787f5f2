use Rattle.std.proofs.Common.{◌≡◌, map, drop}
use Rattle.vx_sql_parser.specs.Types as types
use Rattle.vx_sql_parser.proofs.types.called.Given as goal

abbrev pub invariant-loop-other : goal.invariant-loop-other
invariant-loop-other l =
    types.called (map (λ p. (p.0.now, p.1.now)) (drop l.other-index l.words)) l.word ≡ types.called (map (λ p. (p.0.now, p.1.now)) l.words) l.word
