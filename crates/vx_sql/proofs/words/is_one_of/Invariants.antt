use Rattle.std.proofs.Common.{◌≡◌, map, drop}
use Rattle.vx_sql.specs.Words as words
use Rattle.vx_sql.proofs.words.is_one_of.Given as goal

abbrev pub invariant-loop-other : goal.invariant-loop-other
invariant-loop-other l = words.is_one_of (map (λ w. w.now) (drop l.other-index l.others)) l.word ≡ words.is_one_of (map (λ w. w.now) l.others) l.word
