use Rattle.std.proofs.Common.{take}
use Rattle.vx_prune_tree.proofs.Read.{Scanned, values_at}
use Rattle.vx_prune_tree.proofs.reading.scanned.Given as goal

abbrev pub invariant-loop-row : goal.invariant-loop-row
invariant-loop-row l = Scanned l.nulls l.ends (values_at l.places (take l.row-index l.rows))
